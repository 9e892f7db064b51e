-- One call that brings bytes, from outside: what it leaves, and what it does not read.
-- Assumes nothing.
use Prim.Native.Nat.{ℕ, ◌+◌, ◌-◌, ◌≤◌}
use native.Mathlib.Nat.{add-zero}
use native.Mathlib.Omega.{arith}
use mathlib.Core.Path.{◌≡◌, refl, sym, ap, ap₂, ◌∙◌, subst}
use mathlib.Core.Bool.{true, false, cond}
use mathlib.Core.List.{List, [], ◌++◌, map, append_assoc, append-nil}
use lib.Dec.{ltb}
use lib.ListN.{length, take, drop, length-append, length-set, take-append-drop}
use lib.Seq.{take-append-le, take_at, length-take-le, get_or-set_other, map-set_same}
use borrow.Author.Tests.{ne_eqb}
use Rattle.laws.specs.Tests.{all}
use Rattle.laws.specs.Parts.{over}
use Rattle.laws.proofs.Refusals.{clash, of_choice, all_map}
use Rattle.laws.proofs.Over.{over-length}
use Rattle.laws.proofs.Overlay.{over-ahead, over-behind}
use Rattle.protocol.specs.declared.Pending.{Pending}
use Rattle.protocol.specs.declared.Line.{Line}
use Rattle.protocol.specs.Lines.{nowhere, with_pending}
use Rattle.protocol.specs.State.{Station, station_of, line_at, with_line}
use Rattle.protocol.specs.Order.{in_order}
use Rattle.protocol.specs.Outcomes.{Terms, quiet, hands_up}
use Rattle.protocol.specs.Calls.{message_outcome}
use Rattle.protocol.specs.Kept.{sized_line, Sized, Kept, after_refusal}
use Rattle.protocol.proofs.Outcomes.{stored-again}
use Rattle.protocol.proofs.Kept.{order-kept}
use Rattle.protocol.proofs.Refused.{refusal-frame}
use Rattle.receiving.specs.Feeding.{Fed, extent_of, size_at_front, front_of, held_bytes}
use Rattle.receiving.specs.Feeding.{holding, shut_line, on_line, waiting, dropped, whole_feed, feeding}
use Rattle.receiving.specs.Bare.{bare_line}
use Rattle.receiving.specs.Calls.{in_all, held_count, fed, Leaves, FeedLeaves, BehindUnread}
use Rattle.receiving.proofs.Bare.{held-unread}
use Rattle.receiving.proofs.Extents.{starts-short, front-most, five-more, zero_more, front-more}
use Rattle.receiving.proofs.Extents.{size-at-front-more}
use Rattle.receiving.proofs.Cases.{Passed, outcome}
use Rattle.receiving.proofs.ByCase.{refusal, of_feed, of_refused, of_waits, of_over, of_whole}
use Rattle.receiving.proofs.Calls.{taken-most, taken-some}

-- an area of which the first h bytes and those past the next n are as they were
record Within (h n : ℕ) (area after : List ℕ) : Type 0 where
  long : length after ≡ length area
  front : take h after ≡ take h area
  behind : (k : ℕ) → h + n ≤ k → drop k after ≡ drop k area

untouched : (h n : ℕ) (area : List ℕ) → Within h n area area
untouched h n area = record { long = refl; front = refl; behind = λ _ _. refl }

written : (h n : ℕ) (bs area : List ℕ) → length bs ≡ n → h + n ≤ length area → Within h n area (over h bs area)
written h n bs area e f =
    record {
      long = over-length h bs area (omega arith);
      front = over-ahead h bs area 0 h (omega arith) (omega arith);
      behind = λ k g. over-behind h bs area k (omega arith) (omega arith);
    }

-- bytes that are written behind the first h are there
pub over-joined : (h : ℕ) (bs area : List ℕ) → h ≤ length area
    → take (h + length bs) (over h bs area) ≡ take h area ++ bs
over-joined h bs area f =
    let n : length (take h area ++ bs) ≡ h + length bs = simp length-append (omega (arith, length-take-le h area f)) in
    ap (take (h + length bs)) (sym (append_assoc (take h area) bs _))
    ∙ take_at (take h area ++ bs) (drop (h + length bs) area) (h + length bs) n

-- where none are written, nothing changes
over_nothing : (h : ℕ) (area : List ℕ) → over h [] area ≡ area
over_nothing h area = rw add-zero (take-append-drop h area)

-- a state with another count or shut mark on a line
module _ (s : Station) (l : ℕ) (p : Pending) where
  abbrev changed : Station
  changed = with_line s l (with_pending (line_at s l) p)

  bare-changed : map bare_line changed.lines ≡ map bare_line s.lines
  bare-changed = map-set_same bare_line s.lines l (with_pending (line_at s l) p) nowhere refl

  -- it stays in order
  pub kept-changed : Sized s → in_order s ≡ true → Kept s changed
  kept-changed z o =
      record {
        order = sym (held-unread changed).order
            ∙ ap (λ x. in_order (station_of s.room x s.memory)) bare-changed
            ∙ (held-unread s).order ∙ o;
        sized = record {
          eight = length-set s.lines l _ ∙ z.eight;
          lo = z.lo;
          hi = z.hi;
          asker = z.asker;
          hits = z.hits;
          pongs = sym (all_map bare_line sized_line changed.lines)
              ∙ ap (all sized_line) bare-changed
              ∙ all_map bare_line sized_line s.lines
              ∙ z.pongs;
        };
        room = refl;
      }

  -- and its other lines hold what they held
  pub others-changed : (k : ℕ) → (k ≡ l → ⊥) → (line_at changed k).pending ≡ (line_at s k).pending
  others-changed k n = ap (λ (x : Line). x.pending) (get_or-set_other s.lines l k _ nowhere n)

-- a call without bytes leaves everything
module _ (s : Station) (l : ℕ) (held : List ℕ) (t : Terms) (route : List ℕ) where
  abbrev same : Fed Station → Type 0
  same f = (f.result ≡ quiet f.result.answer s route) × (f.held ≡ held) × (f.used ≡ 0)

  abbrev h : ℕ
  h = held_count s l [] held t route

  held-still : on_line (holding (h + 0)) l s ≡ s
  held-still = ap (λ n. on_line (holding n) l s) (add-zero h) ∙ stored-again s l

  none-brought : same (fed s l [] held t route)
  none-brought =
      of_feed s l [] held t route same
      (λ _ _ _ _. (refl, refl, refl))
      (λ _ _ _. (ap (λ (x : Station). quiet waiting x route) held-still, over_nothing h held, refl))
      (λ p _ e. let four = p.begun in absurd (omega (arith, rw append-nil at e)))
      (λ p _ e _. let four = p.begun in absurd (omega (arith, rw append-nil at e)))

module _ (s : Station) (l : ℕ) (bytes held : List ℕ) (t : Terms) (route : List ℕ) where
  abbrev count : ℕ
  count = held_count s l bytes held t route

  abbrev j : List ℕ
  j = in_all s l bytes held t route

  -- waiting: all bytes have room
  room_waits : Passed s l bytes held t route → extent_of j ≡ 4 → count + length bytes ≤ length held
  room_waits p e =
      omega (arith, starts-short j e, length-append (held_bytes (line_at s l) held) bytes, p.counted, p.long)

  -- of the held area only what stands behind the held bytes changes, as far as bytes are used
  held-within : Within count (fed s l bytes held t route).used held (fed s l bytes held t route).held
  held-within =
      of_feed s l bytes held t route (λ f. Within count f.used held f.held)
      (λ _ _ _ _. untouched _ _ held)
      (λ p _ e. written count (length bytes) bytes held refl (room_waits p e))
      (λ _ _ _. untouched _ _ held)
      (λ p _ e _. whole p (λ f. omega arith))
    where
      whole : Passed s l bytes held t route → (extent_of j ≡ 4 → ⊥) → Within count (size_at_front j - count) held
          (cond (ltb 0 count) (over count (take (size_at_front j - count) bytes) held) held)
      whole p n =
          of_choice (Within count (size_at_front j - count) held) (ltb 0 count) _ held
          (λ _. written count (size_at_front j - count) (take (size_at_front j - count) bytes) held
          (length-take-le (size_at_front j - count) bytes (taken-most s l bytes held t route p n))
          (omega (arith, front-most j n, taken-some s l bytes held t route p n, p.long)))
          (λ _. untouched _ _ held)

  leaves : Leaves s l bytes held t route
  leaves =
      record {
        unread' = of_refused s l bytes held t route
            (λ f. (f.result ≡ quiet f.result.answer s route) × (f.held ≡ held))
            (λ _ _ _ _. (refl, refl));
        nothing = λ e.
            subst (λ b. same s l held t route (fed s l b held t route)) (sym e) (none-brought s l held t route);
        waiting' = of_waits s l bytes held t route
            (λ f. (f.result ≡ quiet waiting (on_line (holding (count + length bytes)) l s) route)
            × (take (count + length bytes) f.held ≡ j))
            (λ p _ e. (refl, over-joined count bytes held (omega (arith, room_waits p e))));
        over = of_over s l bytes held t route
            (λ f. (f.result ≡ quiet 5 (on_line shut_line l s) route) × (f.held ≡ held))
            (λ _ _ _. (refl, refl));
        refused = of_whole s l bytes held t route
            (λ f. (f.result.answer ≡ 0 → ⊥) → f.result ≡ hands_up f.result.age (quiet f.result.answer
            (on_line (holding 0) l (after_refusal f.result.answer s l (front_of j))) route))
            (λ _ _ _ _ n. ap (dropped l) ((refusal-frame.calls s).message l (front_of j) t route n));
        long = held-within.long;
        front = held-within.front;
        behind = held-within.behind;
        others = λ k n.
            of_feed s l bytes held t route (λ f. (line_at f.result.state k).pending ≡ (line_at s k).pending)
            (λ _ _ _ _. refl)
            (λ _ _ _. others-changed s l _ k n)
            (λ _ _ _. others-changed s l _ k n)
            (λ _ _ _ _. others-changed (outcome s l bytes held t route).state l _ k n
            ∙ (held-unread s).message_held _ l (front_of j) t route k);
        kept = λ z o.
            of_feed s l bytes held t route (λ f. Kept s f.result.state)
            (λ _ _ _ _. record { order = o; sized = z; room = refl })
            (λ _ _ _. kept-changed s l _ z o)
            (λ _ _ _. kept-changed s l _ z o)
            (λ _ _ _ _. let k = (order-kept s z o).message l (front_of j) t route in
            let m = kept-changed (outcome s l bytes held t route).state l _ k.sized k.order in
            record { order = m.order; sized = m.sized; room = k.room });
      }

pub feed-leaves : FeedLeaves
feed-leaves = leaves

-- bytes behind those of a call that does not wait
module _ (s : Station) (l : ℕ) (bytes more held : List ℕ) (t : Terms) (route : List ℕ) where
  abbrev has : List ℕ
  has = in_all s l bytes held t route

  abbrev has' : List ℕ
  has' = in_all s l (bytes ++ more) held t route

  -- what a function gives of the bytes with the others behind them, it gives of all
  same_of : {A : Type 0} (f : List ℕ → A) {x : A} → f (has ++ more) ≡ x → f has' ≡ x
  same_of f e = ap f (sym (append_assoc (held_bytes (line_at s l) held) bytes more)) ∙ e

  -- bytes b, of which a message m of n bytes is taken: the others change neither it nor what it takes
  abbrev whole_with : List ℕ → ℕ → List ℕ → Fed Station
  whole_with b n m = whole_feed (count s l b held t route) b held route n (dropped l (message_outcome s l m t route))

  whole-behind : Passed s l bytes held t route → extent_of has ≡ 0
      → whole_with (bytes ++ more) (size_at_front has') (front_of has') ≡ whole_with bytes (size_at_front has) (front_of has)
  whole-behind p e =
      let n : extent_of has ≡ 4 → ⊥ = λ f. omega arith in
      let used = take-append-le _ bytes more (taken-most s l bytes held t route p n) in
      ap₂ (whole_with (bytes ++ more)) (same_of size_at_front (size-at-front-more has more n))
      (same_of front_of (front-more has more n))
      ∙ rw used

  behind : (fed s l bytes held t route).waits ≡ false → fed s l (bytes ++ more) held t route ≡ fed s l bytes held t route
  unfolding feeding
  behind =
      of_feed s l bytes held t route (λ f. f.waits ≡ false → fed s l (bytes ++ more) held t route ≡ f)
      (λ n e z _ _. rw (e, ne_eqb n 0 z))
      (λ _ _ _ w. absurd (clash refl w))
      (λ _ z e _. rw (z, same_of extent_of (five-more has more e)))
      (λ p z e _ _. whole z e ∙ whole-behind p e)
    where
      whole : refusal s l bytes held t route ≡ 0 → extent_of has ≡ 0
          → fed s l (bytes ++ more) held t route ≡ whole_with (bytes ++ more) (size_at_front has') (front_of has')
      whole z e = rw (z, same_of extent_of (zero_more has more e))

pub behind-unread : BehindUnread
behind-unread = behind
