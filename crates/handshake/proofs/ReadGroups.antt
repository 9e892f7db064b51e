-- Groups that were written are read as the same groups.
use Prim.Native.Nat.{ℕ, ◌+◌, ◌-◌, ◌≤◌, ◌<◌}
use mathlib.Core.Path.{◌≡◌, refl, ap, ◌∙◌}
use mathlib.Core.Bool.{true, false, not, ◌&&◌}
use mathlib.Core.List.{List, [], ◌∷◌, ◌++◌, map, append_assoc, append-nil}
use native.Mathlib.Omega.{arith}
use lib.Dec.{eqb, leb, ltb}
use lib.ListN.{length, length-append, length-take, take, drop}
use lib.Seq.{take_all, take-append_seam}
use borrow.Author.Tests.{le-leb, ne_eqb, not-true, not-false}
use Rattle.laws.specs.Tests.{all}
use Rattle.laws.proofs.Refusals.{and_fst, and_snd, no-refusal}
use Rattle.ascii.specs.Text.{is_digit, is_text, is_blank, leading, lower, compared, digit_of, digit_value, pieces}
use Rattle.ascii.specs.Text.{filled}
use Rattle.groups.specs.Lines.{ends_at, group_length, lines_of, first_line, other_lines}
use Rattle.groups.specs.Start.{version_length, status_ok, greeting_from, reply_from, start_of}
use Rattle.groups.specs.Start.{Start}
use Rattle.groups.proofs.Rows.{rows, is_line, lines_rows, ends_there}
use Rattle.fields.specs.Fields.{lines_ok, is_absent, value_for}
use Rattle.xtry.specs.Pairs.{comma, dot, bare, items_of, good_pair, pair_in, pairs_from, pairs_of}
use Rattle.xtry.specs.Writing.{octet_of, pair_text, pairs_text, pairs_in, can_write}
use Rattle.xtry.specs.Claims.{is_host}
use Rattle.xtry.specs.declared.Pair.{Pair}
use Rattle.xtry.specs.declared.Pairs.{Pairs}
use Rattle.xtry.proofs.ReadBack.{clean, digit-clean, pairs-clean, host-first, below_thousand, part, behind₁}
use Rattle.xtry.proofs.ReadBack.{pair-split, decimal-all, pairs_items, pairs-good, pairs-same, pairs_small}
use Rattle.xtry.proofs.Listing.{can-few}
use Rattle.handshake.specs.Group.{lines_in, start_in, is_start, understood, group_number, group_from, read_group}
use Rattle.handshake.specs.Tried.{try_value, group_answer, group_tried}
use Rattle.handshake.specs.Groups.{crlf, busy_line, try_front, try_name, try_line, greeting_bytes, ok_bytes, busy_bytes}
use Rattle.handshake.specs.Groups.{text_answer, busy_answer, wrote_of, area_of}
use Rattle.handshake.specs.Hosts.{ReadAs, TextReadAs, GroupsReadBack, AreaReadAs, AreasReadBack}
use Rattle.handshake.specs.declared.Group.{Group}
use Rattle.handshake.proofs.Behind.{not-read-behind}
use Rattle.handshake.proofs.Order.{read_whole}
use Rattle.handshake.proofs.HostsBehind.{hosts-not-behind}

-- ---- the text of the pairs

text-from : (xs : List ℕ) → clean 13 xs ≡ true → clean 10 xs ≡ true → all is_text xs ≡ true
text-from [] a b = refl
text-from (x ∷ xs) a b =
    rw (
      not-true (eqb x 13) (and_fst (not (eqb x 13)) (clean 13 xs) a),
      not-true (eqb x 10) (and_fst (not (eqb x 10)) (clean 10 xs) b),
    )
    (text-from xs (and_snd (not (eqb x 13)) (clean 13 xs) a) (and_snd (not (eqb x 10)) (clean 10 xs) b))

pairs-are-text : (ps : List Pair) → all is_text (pairs_text ps) ≡ true
pairs-are-text ps = text-from (pairs_text ps) (pairs-clean 13 refl refl refl refl ps)
    (pairs-clean 10 refl refl refl refl ps)

-- no blank stands at the front
no-blank : (xs ys : List ℕ) → 1 ≤ length xs → all is_digit xs ≡ true → leading is_blank (xs ++ ys) ≡ 0
no-blank [] ys n h = absurd (omega arith)
no-blank (x ∷ xs) ys n h =
    rw (
      not-true (eqb x 32) (and_fst (not (eqb x 32)) (clean 32 xs) (digit-clean 32 refl (x ∷ xs) h)),
      not-true (eqb x 9) (and_fst (not (eqb x 9)) (clean 9 xs) (digit-clean 9 refl (x ∷ xs) h)),
    )

-- ---- a group of two lines

module _ (first second : List ℕ) (h : all is_line (first ∷ second ∷ []) ≡ true)
    (b : length (rows (first ∷ second ∷ [])) + 2 ≤ 4096) (s : Start) (k : start_of first ≡ s)
    (z : eqb s.kind 0 ≡ false) (ok : lines_ok false (second ∷ []) ≡ true) where
  abbrev body : List ℕ
  body = rows (first ∷ second ∷ [])

  abbrev text : List ℕ
  text = body ++ crlf

  size : length text ≡ length body + 2
  size = length-append body crlf

  lines_are : lines_in text (length body + 2) ≡ first ∷ second ∷ []
  lines_are =
      let e : length body + 2 - 2 ≡ length body = omega arith in
      ap lines_of (ap (λ n. take n text) e ∙ take-append_seam body crlf) ∙ lines_rows (first ∷ second ∷ []) h

  first-text : all is_text first ≡ true
  first-text = and_snd (leb 1 (length first)) (all is_text first) (and_fst (is_line first) (all is_line (second ∷ [])) h)

  understood-is : understood text (length body + 2) ≡ true
  unfolding understood
  understood-is = ap (λ ls. is_start (first_line ls) (start_of (first_line ls)).kind && lines_ok false (other_lines ls))
      lines_are ∙ rw (first-text, k, z, ok)

  start_is : start_in text (length body + 2) ≡ s
  start_is = ap (λ ls. start_of (first_line ls)) lines_are ∙ k

  some-there : eqb (length body + 2) 0 ≡ false
  some-there = ne_eqb (length body + 2) 0 (λ e. omega arith)

  group-is : group_length text ≡ length body + 2
  group-is = ends_there (first ∷ second ∷ []) h b

  read-two : read_group text
      ≡ record { answer = 0; used = length text; kind = s.kind; major = s.major; minor = s.minor; code = s.code }
  unfolding group_from group_number
  read-two = rw (group-is, understood-is, start_is, some-there, size)

  module _ (v : List ℕ) (w : value_for try_name (second ∷ []) ≡ v) (g : all good_pair (items_of v) ≡ true) where
    value-is : try_value text ≡ v
    value-is = ap (λ n. value_for try_name (other_lines (lines_in text n))) group-is
        ∙ ap (λ ls. value_for try_name (other_lines ls)) lines_are ∙ w

    answer-is : group_answer text ≡ 0
    unfolding group_answer group_number
    answer-is = rw (value-is, g, group-is, understood-is, some-there)

    tried_two : group_tried text ≡ record { answer = 0; used = length text; pairs = pairs_from (pairs_of v) }
    unfolding group_tried
    tried_two = rw (answer-is, value-is, group-is, size)

-- ---- the three groups

greeting-alone : ReadAs greeting_bytes (length greeting_bytes) 1 0 []
unfolding greeting_bytes group_length ends_at lower compared digit_of digit_value version_length status_ok greeting_from
    reply_from start_of is_absent value_for understood group_number group_from group_tried group_answer items_of pieces bare
    filled good_pair pairs_of pairs_from
greeting-alone = record { group = refl; hosts = refl }

ok_alone : ReadAs ok_bytes (length ok_bytes) 2 200 []
unfolding ok_bytes group_length ends_at lower compared digit_of digit_value version_length status_ok greeting_from reply_from
    start_of is_absent value_for understood group_number group_from group_tried group_answer items_of pieces bare filled
    good_pair pairs_of pairs_from
ok_alone = record { group = refl; hosts = refl }

busy-none : ReadAs (busy_bytes []) (length (busy_bytes [])) 2 503 []
unfolding busy_bytes try_line group_length ends_at lower compared digit_of digit_value version_length status_ok greeting_from
    reply_from start_of is_absent value_for understood group_number group_from group_tried group_answer items_of pieces bare
    filled good_pair pairs_of pairs_from
busy-none = record { group = refl; hosts = refl }

-- the first line of the reply
abbrev busy_start : Start
busy_start = record { kind = 2; major = 0; minor = 6; code = 503 }

busy-start : start_of busy_line ≡ busy_start
unfolding lower compared digit_of digit_value version_length status_ok greeting_from reply_from start_of
busy-start = refl

-- the field's line
module _ (p : Pair) (ps : List Pair) (hs : all is_host (p ∷ ps) ≡ true) where
  abbrev value : List ℕ
  value = pairs_text (p ∷ ps)

  abbrev line : List ℕ
  line = try_front ++ value

  no-blank-here : (ys : List ℕ) → leading is_blank (pair_text p ++ ys) ≡ 0
  no-blank-here ys =
      let h = host-first p ps hs in
      rw (pair-split p, append_assoc (part p 0) (dot ∷ behind₁ p) ys)
      (no-blank (part p 0) ((dot ∷ behind₁ p) ++ ys) (below_thousand (octet_of p 0) (omega (arith, h.octet 0))).some
      (decimal-all (octet_of p 0)))

  line-is : all is_line (busy_line ∷ line ∷ []) ≡ true
  line-is = rw (le-leb 1 (length line) (omega arith), pairs-are-text (p ∷ ps))

  line_ok : lines_ok false (line ∷ []) ≡ true
  line_ok = rw (pairs-are-text (p ∷ ps))

  line_small : length (p ∷ ps) ≤ 32 → length (rows (busy_line ∷ line ∷ [])) + 2 ≤ 4096
  line_small n = omega (arith, length-append value (13 ∷ 10 ∷ []), pairs_small (p ∷ ps) hs)

  line-value : leading is_blank value ≡ 0 → value_for try_name (line ∷ []) ≡ value
  unfolding value_for lower compared
  line-value f = rw f (append-nil (value ++ []) ∙ append-nil value)

  value-good : all good_pair (items_of value) ≡ true
  value-good = ap (all good_pair) (pairs_items (p ∷ ps) hs) ∙ pairs-good (p ∷ ps) hs

  value-pairs : length (p ∷ ps) ≤ 32 → pairs_of value ≡ p ∷ ps
  unfolding pairs_of
  value-pairs n =
      ap (λ x. take 32 (map pair_in x)) (pairs_items (p ∷ ps) hs)
      ∙ ap (take 32) (pairs-same (p ∷ ps) hs)
      ∙ take_all 32 (p ∷ ps) n

  reply-is : busy_bytes (p ∷ ps) ≡ rows (busy_line ∷ line ∷ []) ++ crlf
  unfolding busy_bytes try_line
  reply-is = refl

  busy-some : length (p ∷ ps) ≤ 32 → leading is_blank value ≡ 0 → ReadAs (busy_bytes (p ∷ ps))
      (length (busy_bytes (p ∷ ps))) 2 503 (p ∷ ps)
  busy-some n f =
      rw reply-is
      (record {
        group = read-two busy_line line line-is (line_small n) busy_start busy-start refl line_ok;
        hosts =
            tried_two busy_line line line-is (line_small n) busy_start busy-start refl line_ok value
            (line-value f) value-good
            ∙ ap (λ x. record { answer = 0; used = length (rows (busy_line ∷ line ∷ []) ++ crlf); pairs = pairs_from x })
            (value-pairs n);
      })

value-front : (p : Pair) (ps : List Pair) → all is_host (p ∷ ps) ≡ true → leading is_blank (pairs_text (p ∷ ps)) ≡ 0
unfolding pairs_text
value-front p [] h = rw append-nil at (no-blank-here p [] h [])
value-front p (q ∷ qs) h = no-blank-here p (q ∷ qs) h (comma ∷ pairs_text (q ∷ qs))

busy-alone : (ps : List Pair) → length ps ≤ 32 → all is_host ps ≡ true → ReadAs (busy_bytes ps)
    (length (busy_bytes ps)) 2 503 ps
busy-alone [] n h = busy-none
busy-alone (p ∷ ps) n h = busy-some p ps h n (value-front p ps h)

-- ---- with anything behind them

read_behind : {text : List ℕ} {kind code : ℕ} {ps : List Pair}
    → ReadAs text (length text) kind code ps → TextReadAs text kind code ps
read_behind {text} r x =
    let h : 0 < group_length text = read_whole text (ap (λ (g : Group). g.answer) r.group) in
    record { group = (not-read-behind text x h).0 ∙ r.group; hosts = hosts-not-behind text x h ∙ r.hosts }

pub groups-read-back : GroupsReadBack
groups-read-back = (read_behind greeting-alone, read_behind ok_alone, λ ps n h. read_behind (busy-alone ps n h))

-- the area of a writer that answers 0 begins with the text
read-area : (text area : List ℕ) (answer : ℕ) {kind code : ℕ} {ps : List Pair}
    → TextReadAs text kind code ps → AreaReadAs answer text area kind code ps
unfolding area_of wrote_of
read-area text area answer r e = rw e (r (drop (0 + length text) area))

few-pairs : (room : ℕ) (pairs : Pairs) → busy_answer room pairs ≡ 0 → length (pairs_in pairs) ≤ 32
unfolding busy_answer
few-pairs room pairs e =
    let h = no-refusal ((not (can_write pairs), 6) ∷ (ltb room (length (busy_bytes (pairs_in pairs))), 2) ∷ []) refl e in
    omega (arith, can-few pairs (not-false (can_write pairs) h.0), length-take pairs.count pairs.pairs)

pub areas-read-back : AreasReadBack
areas-read-back area = (
  read-area greeting_bytes area (text_answer (length area) greeting_bytes) groups-read-back.0,
  read-area ok_bytes area (text_answer (length area) ok_bytes) groups-read-back.1,
  busy,
)
  where
    busy : (pairs : Pairs) → all is_host (pairs_in pairs) ≡ true
        → AreaReadAs (busy_answer (length area) pairs) (busy_bytes (pairs_in pairs)) area 2 503 (pairs_in pairs)
    busy pairs h e =
        read-area (busy_bytes (pairs_in pairs)) area (busy_answer (length area) pairs)
        (groups-read-back.2 (pairs_in pairs) (few-pairs (length area) pairs e) h) e
