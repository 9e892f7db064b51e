-- The messages that are put, one behind the other, and those of the whole answer.
-- Assumes nothing.
use Rattle.std.proofs.Common.{◌≡◌, ℕ, ◌+◌, ◌-◌, ◌*◌, ◌/◌, ◌%◌, ◌<◌, ◌≤◌, min, max, Bool, true, false, ◌||◌, List, [], ◌∷◌, ◌++◌, length, get_or, take, drop, sym, refl, ap, ◌∙◌, append_assoc, append-nil, arith, length-append, le-ltb, lt-ltb, le-leb}
use borrow.Rule.Slice.PartMut.{put_mid}
use Rattle.laws.specs.Bytes.{little_bytes}
use Rattle.laws.specs.Parts.{over, copied}
use Rattle.laws.proofs.Over.{over-length}
use Rattle.laws.proofs.Writing.{written_next, lent-part, copied-part}
use Rattle.laws.proofs.Ranks.{four-front}
use Rattle.wire.specs.Header.{header, message, with_header, pong_type}
use Rattle.wire.proofs.HeaderLaws.{header-length, message-length}
use Rattle.protocol.specs.declared.Pong.{Pong}
use Rattle.protocol.specs.declared.Line.{Line}
use Rattle.protocol.specs.declared.Own.{Own}
use Rattle.protocol.specs.Lines.{elapsed}
use Rattle.protocol.specs.Pings.{one_hop_more, pong_bytes, stored_bytes, stored_sent, own_pong, own_sent, pongs_sent}
use Rattle.pongrings.specs.Ring.{if_fresh, counts_in, nexts_in, rings_in, largest}
use Rattle.pinging.specs.Sending.{PongsPut, StoredPut, own_count, pong_count, pongs_written, count_written}
use Rattle.pongrings.proofs.RingLaws.{pong_in}
use Rattle.pongrings.proofs.WalkLaws.{
  Walk,
  walk_of,
  walk_over,
  place_at,
  turn_at,
  turned,
  turned-next,
  turn-none,
  turn-some,
  ten-made,
  all_made,
}

-- ---- one pong

-- the parts of the own pong's 14 bytes
pub own-parts : (port files kilobytes : ℕ) (address fs ks : List ℕ) → length address ≡ 4
    → fs ≡ little_bytes 4 files → ks ≡ little_bytes 4 kilobytes
    → port % 256 ∷ port / 256 % 256
    ∷ get_or address 0 0 ∷ get_or address 1 0 ∷ get_or address 2 0 ∷ get_or address 3 0
    ∷ get_or fs 0 0 ∷ get_or fs 1 0 ∷ get_or fs 2 0 ∷ get_or fs 3 0
    ∷ get_or ks 0 0 ∷ get_or ks 1 0 ∷ get_or ks 2 0 ∷ get_or ks 3 0
    ∷ []
    ≡ little_bytes 2 port ++ (address ++ (little_bytes 4 files ++ little_bytes 4 kilobytes))
own-parts port files kilobytes address fs ks a f k =
    rw (f, k)
    (ap (λ l. port % 256 ∷ port / 256 % 256 ∷ l)
    (four-front address (little_bytes 4 files ++ little_bytes 4 kilobytes) a))

-- a header written at the front, and the 14 bytes behind it
pub pong-put : (number bytes part mid left : List ℕ) (ttl pinghops hops : ℕ) → length number ≡ 16
    → length bytes ≡ 14 → 37 ≤ length part → ttl ≡ max 1 pinghops → mid ≡ with_header number pong_type ttl hops 14 part
    → left ≡ copied bytes (take (length mid - 23) (drop 23 mid))
    → PongsPut 1 (pong_bytes number pinghops hops bytes) part (put_mid 23 (length mid - 23) mid left) 37
unfolding with_header message
pong-put number bytes part mid left ttl pinghops hops n b h t m l =
    let top : List ℕ = header number pong_type (max 1 pinghops) hops 14 in
    let long : length top ≡ 23 = header-length number pong_type (max 1 pinghops) hops bytes n 14 in
    let m' : mid ≡ over 0 top part = m ∙ rw (t, le-leb 23 (length part) (omega arith)) in
    let k : length mid ≡ length part = ap length m' ∙ over-length 0 top part (omega arith) in
    record {
      count = refl;
      size = sym (message-length number pong_type (max 1 pinghops) hops bytes n ∙ omega arith);
      wrote =
          copied-part 23 (length mid - 23) bytes mid left (omega arith) (omega arith) l
          ∙ ap (over 23 bytes) m'
          ∙ written_next 23 top bytes part long
          ∙ ap (λ s. over 0 (header number pong_type (max 1 pinghops) hops s ++ bytes) part) (sym b);
    }

-- ---- several, one behind the other

pub put-none : (part : List ℕ) → PongsPut 0 [] part part 0
put-none part = record { count = refl; size = refl; wrote = refl }

-- the same pongs by another name
pub put_same : {n m r : ℕ} {xs ys part left : List ℕ} → n ≡ m → xs ≡ ys
    → PongsPut n xs part left r → PongsPut m ys part left r
put_same {part = part} e f p =
    record {
      count = p.count ∙ ap (λ k. 37 * k) e;
      size = p.size ∙ ap length f;
      wrote = p.wrote ∙ ap (λ bs. over 0 bs part) f;
    }

put-length : {n r : ℕ} {xs start area : List ℕ} → PongsPut n xs start area r → r ≤ length start
    → length area ≡ length start
put-length {xs = xs} {start = start} p room =
    let s = p.size in
    ap length p.wrote ∙ over-length 0 xs start (omega arith)

-- more of them behind those that have been put
pub put_both : (n m a b : ℕ) (xs ys start area left : List ℕ) → PongsPut n xs start area a → a + b ≤ length start
    → PongsPut m ys (take (length area - a) (drop a area)) left b
    → PongsPut (n + m) (xs ++ ys) start (put_mid a (length area - a) area left) (a + b)
put_both n m a b xs ys start area left p room q =
    let s = p.size in
    let t = q.size in
    let u = p.count in
    let v = q.count in
    let long = put-length p (omega arith) in
    record {
      count = omega arith;
      size = sym (length-append xs ys ∙ omega arith);
      wrote =
          lent-part a (length area - a) ys area left (omega arith) (omega arith) q.wrote
          ∙ ap (over a ys) p.wrote
          ∙ written_next a xs ys start (sym s);
    }

bytes_append : (number : List ℕ) (pinghops : ℕ) (ps qs : List Pong)
    → stored_bytes number pinghops (ps ++ qs) ≡ stored_bytes number pinghops ps ++ stored_bytes number pinghops qs
bytes_append number pinghops [] qs = refl
bytes_append number pinghops (p ∷ ps) qs =
    ap (λ l. pong_bytes number pinghops (one_hop_more p.hops) p.bytes ++ l) (bytes_append number pinghops ps qs)
    ∙ sym
    (append_assoc (pong_bytes number pinghops (one_hop_more p.hops) p.bytes) (stored_bytes number pinghops ps)
    (stored_bytes number pinghops qs))

-- ---- stored pongs

module _ (number : List ℕ) (pinghops : ℕ) where
  stored_same : (ps qs : List Pong) {part left : List ℕ} {r : ℕ} → ps ≡ qs
      → StoredPut number pinghops ps part left r → StoredPut number pinghops qs part left r
  stored_same ps qs e = put_same (ap length e) (ap (stored_bytes number pinghops) e)

  -- one pong, if it is fresh
  module _ (clock : ℕ) (p : Pong) (part : List ℕ) where
    pub stored-old : 15000 ≤ elapsed clock p.clock → StoredPut number pinghops (if_fresh clock p) part part 0
    stored-old h =
        stored_same [] (if_fresh clock p) (sym (rw (le-ltb (elapsed clock p.clock) 15000 h))) (put-none part)

    pub stored-fresh : elapsed clock p.clock < 15000 → (hops : ℕ) (left : List ℕ) → hops ≡ one_hop_more p.hops
        → PongsPut 1 (pong_bytes number pinghops hops p.bytes) part left 37
        → StoredPut number pinghops (if_fresh clock p) part left 37
    stored-fresh h hops left e q =
        stored_same (p ∷ []) (if_fresh clock p) (sym (rw (lt-ltb (elapsed clock p.clock) 15000 h)))
        (put_same refl (ap (λ m. pong_bytes number pinghops m p.bytes) e ∙ sym (append-nil _)) q)

  -- the walk: what the first i turns give is put
  module _ (w : Walk) where
    pub record Turned (i s : ℕ) (start area : List ℕ) : Type 0 where
      pub few : s ≤ 370
      pub turns : i ≤ 80
      pub long : length area ≡ length start
      pub put : StoredPut number pinghops (turned w i) start area s

    pub turned_none : (start : List ℕ) → Turned 0 0 start start
    unfolding turned
    turned_none start = record { few = omega arith; turns = omega arith; long = refl; put = put-none start }

    module _ (i s : ℕ) (start area : List ℕ) (v : Turned i s start area) where
      -- a turn past an empty place, and one that puts what it finds if that is fresh
      module _ (more : i < 80) (place : ℕ) (at : place ≡ place_at w i) where
        pub turned-past : 10 ≤ place → Turned (i + 1) s start area
        turned-past h =
            let same : turned w (i + 1) ≡ turned w i =
            turned-next w i ∙ ap (λ ps. turned w i ++ ps) (turn-none w i place at h) ∙ append-nil (turned w i) in
            record {
              few = v.few;
              turns = omega arith;
              long = v.long;
              put = stored_same (turned w i) (turned w (i + 1)) (sym same) v.put;
            }

        pub turned-put : place < 10 → s < 370 → 370 ≤ length start → (r : ℕ) (left : List ℕ) → r ≤ 37
            → StoredPut number pinghops (if_fresh w.clock (pong_in (get_or w.rings (i % 8) []) place))
            (take (length area - s) (drop s area)) left r
            → Turned (i + 1) (s + r) start (put_mid s (length area - s) area left)
        turned-put h hs room r left one q =
            let n = v.put.count in
            let few : s + r ≤ 370 = omega arith in
            let both =
            put_both (length (turned w i)) (length (turn_at w i)) s r (stored_bytes number pinghops (turned w i))
            (stored_bytes number pinghops (turn_at w i)) start area left v.put (omega arith)
            (stored_same _ (turn_at w i) (sym (turn-some w i place at h)) q) in
            record {
              few = few;
              turns = omega arith;
              long = put-length both (omega arith);
              put =
                  put_same (sym (ap length (turned-next w i) ∙ length-append (turned w i) (turn_at w i)))
                  (sym
                  (ap (stored_bytes number pinghops) (turned-next w i)
                  ∙ bytes_append number pinghops (turned w i) (turn_at w i)))
                  both;
            }

  -- ten are put, or no turn is left
  module _ {counts nexts : List ℕ} {rings : List (List Pong)} (l clock : ℕ) (lines : List Line)
      (ec : counts ≡ counts_in lines) (en : nexts ≡ nexts_in lines) (er : rings ≡ rings_in lines) (i s : ℕ)
      (start area : List ℕ) (v : Turned (walk_of counts nexts rings l clock) i s start area) where
    over-lines : walk_of counts nexts rings l clock ≡ walk_over lines l clock
    over-lines = rw (ec, en, er)

    pub done-ten : 370 ≤ s → StoredPut number pinghops (stored_sent lines l clock) start area s
    done-ten h =
        let f = v.few in
        let n = v.put.count in
        stored_same (turned (walk_of counts nexts rings l clock) i) _
        (sym (ten-made _ lines over-lines i v.turns (omega arith))) v.put

    pub done_all : (m : ℕ) → m ≡ min 10 (largest counts) → 8 * m ≤ i
        → StoredPut number pinghops (stored_sent lines l clock) start area s
    done_all m em h =
        let f = v.few in
        let n = v.put.count in
        stored_same (turned (walk_of counts nexts rings l clock) i) _
        (sym (all_made _ lines over-lines i v.turns (rw em at h) (omega arith))) v.put

-- ---- the own pong

module _ (own : Own) (number : List ℕ) (pinghops : ℕ) (probe : Bool) (part : List ℕ) where
  pub own-unsent : (probe || own.calls) ≡ false
      → PongsPut (own_count own probe) (own_sent own number pinghops probe) part part 0
  own-unsent e = put_same (sym (rw e)) (sym (rw e)) (put-none part)

  pub own_put : (probe || own.calls) ≡ true → (payload left : List ℕ) → payload ≡ own_pong own
      → PongsPut 1 (pong_bytes number pinghops 0 payload) part left 37
      → PongsPut (own_count own probe) (own_sent own number pinghops probe) part left 37
  own_put e payload left p q = put_same (sym (rw e)) (ap (pong_bytes number pinghops 0) p ∙ sym (rw e)) q

-- ---- the whole answer

module _ (lines : List Line) (l clock : ℕ) (own : Own) (number : List ℕ) (hops : ℕ) (probe : Bool) (out : List ℕ)
    (room : 407 ≤ length out) where
  abbrev pub Answered : ℕ → List ℕ → Type 0
  Answered r left =
      PongsPut (count_written (length out) lines l clock own probe)
      (pongs_written (length out) lines l clock own number hops probe) out left r

  answered : (n r : ℕ) (bs left : List ℕ) → PongsPut n bs out left r → n ≡ pong_count lines l clock own probe
      → bs ≡ pongs_sent lines l clock own number hops probe → Answered r left
  answered n r bs left p en eb =
      put_same (en ∙ sym (rw (le-leb 407 (length out) room))) (eb ∙ sym (rw (le-leb 407 (length out) room))) p

  module _ (a : ℕ) (mid : List ℕ) (p : PongsPut (own_count own probe) (own_sent own number hops probe) out mid a) where
    pub to-probe : probe ≡ true → Answered a mid
    unfolding pongs_sent pong_count
    to-probe e = answered _ a _ mid p (sym (rw e (omega arith))) (sym (rw e (append-nil _)))

    pub to-other : probe ≡ false → (b : ℕ) (left : List ℕ) → a + b ≤ length out
        → StoredPut number hops (stored_sent lines l clock) (take (length mid - a) (drop a mid)) left b
        → Answered (a + b) (put_mid a (length mid - a) mid left)
    unfolding pongs_sent pong_count
    to-other e b left fits q =
        answered _ (a + b) _ _ (put_both _ _ a b _ _ out mid left p fits q) (sym (rw e)) (sym (rw e))
