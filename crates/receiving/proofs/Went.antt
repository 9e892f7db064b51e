-- A call that brings bytes goes on with its line's stream, and neither opens nor closes a line.
-- Assumes nothing.
use Prim.Native.Nat.{ℕ, ◌+◌, ◌-◌, ◌<◌}
use native.Mathlib.Omega.{arith}
use mathlib.Core.Path.{◌≡◌, refl, sym, ap, subst, ◌∙◌}
use mathlib.Core.Bool.{Bool, true, false, cond, ◌||◌}
use mathlib.Core.List.{List, [], ◌∷◌, ◌++◌, append-nil}
use lib.Dec.{eqb}
use lib.ListN.{length, get_or, take, set, length-set, get_or-map}
use lib.Seq.{take-length, map-set_same}
use Rattle.laws.proofs.Refusals.{of_choice}
use Rattle.wire.specs.Header.{header_in, size_of}
use Rattle.protocol.specs.declared.Pending.{Pending}
use Rattle.protocol.specs.declared.Line.{Line}
use Rattle.protocol.specs.Lines.{nowhere}
use Rattle.protocol.specs.State.{Station, line_at, with_line}
use Rattle.protocol.specs.Outcomes.{Terms, Outcome}
use Rattle.protocol.specs.Queries.{usual_limit}
use Rattle.protocol.specs.Pings.{is_probe}
use Rattle.protocol.specs.Calls.{update_step, arriving, own_answer, own_taken, asking}
use Rattle.protocol.specs.Runs.{Area, Call, Message}
use Rattle.protocol.proofs.Outcomes.{of_refused}
use Rattle.protocol.proofs.ByType.{of_types, of_message}
use Rattle.protocol.proofs.Matching.{line_set}
use Rattle.receiving.specs.Feeding.{Fed, extent_of, size_at_front, front_of, held_bytes, holding, shut_line, on_line}
use Rattle.receiving.specs.Feeding.{held_size, dropped, refused_feed, waiting_feed, over_feed, feed_outcome}
use Rattle.receiving.specs.Events.{unread}
use Rattle.receiving.specs.Calls.{in_all, held_count}
use Rattle.receiving.specs.Frames.{Stream, bytes_in}
use Rattle.receiving.proofs.Cases.{Passed, ByType, outcome}
use Rattle.receiving.proofs.ByCase.{typed-read, of_feed}
use Rattle.receiving.proofs.Bare.{held-unread}
use Rattle.receiving.proofs.CallsLeave.{feed-leaves}
use Rattle.receiving.proofs.Streams.{Going, going_on, going-whole}

-- every line is open or closed as it was, and there are as many
pub record SameLives (s s' : Station) : Type 0 where
  pub count : length s'.lines ≡ length s.lines
  pub live : (k : ℕ) → (line_at s' k).live ≡ (line_at s k).live

pub same-lives : (s : Station) → SameLives s s
same-lives s = record { count = refl; live = λ _. refl }

lives_then : {s s' s'' : Station} → SameLives s s' → SameLives s' s'' → SameLives s s''
lives_then p q = record { count = q.count ∙ p.count; live = λ k. q.live k ∙ p.live k }

lives-set : (s : Station) (l : ℕ) (x : Line) → x.live ≡ (line_at s l).live → SameLives s (with_line s l x)
lives-set s l x e =
    let live : Line → Bool = λ y. y.live in
    record {
      count = length-set s.lines l x;
      live = λ k.
          sym (get_or-map live (set s.lines l x) k nowhere)
          ∙ ap (λ bs. get_or bs k false) (map-set_same live s.lines l x nowhere e)
          ∙ get_or-map live s.lines k nowhere;
    }

-- so after every message, and after an own query
module _ (s : Station) (limit l : ℕ) (m : List ℕ) (t : Terms) (route : List ℕ) where
  abbrev Lives : Outcome → Type 0
  Lives o = SameLives s o.state

  pub message-lives : Lives (arriving limit s l m t route)
  unfolding update_step
  message-lives =
      of_message Lives s l m route limit t (λ _ _. same-lives s)
      (λ _. of_types Lives s l m route (λ _ _ _. same-lives s) limit t
      (λ _ _. lives-set s l _
      (of_choice (λ (x : Line). x.live ≡ (line_at s l).live) (is_probe (header_in m)) _ _ (λ _. refl) (λ _. refl)))
      (λ _ _. lives-set s l _ refl)
      (λ _. lives-set s l _ refl)
      (λ _ _. record { count = refl; live = λ _. refl })
      (λ _ _. record { count = refl; live = λ _. refl }))

pub own-lives : (s : Station) (limit : ℕ) (number text : List ℕ) (out : ℕ) (route : List ℕ)
    → SameLives s (asking limit s number text out route).state
unfolding asking
own-lives s limit number text out route =
    of_refused (λ o. SameLives s o.state) (own_answer s number text out (length route)) s route
    (own_taken limit s number text route) (λ _. record { count = refl; live = λ _. refl }) (λ _. same-lives s)

-- and after every call that brings bytes
module _ (s : Station) (l : ℕ) (bytes held : List ℕ) (t : Terms) (route : List ℕ) where
  pub feed-lives : SameLives s (feed_outcome s l bytes held t route).result.state
  feed-lives =
      of_feed s l bytes held t route (λ f. SameLives s f.result.state)
      (λ _ _ _ _. same-lives s)
      (λ _ _ _. lives-set s l _ refl)
      (λ _ _ _. lives-set s l _ refl)
      (λ _ _ _ _. lives_then (message-lives s usual_limit l _ t route)
      (lives-set (outcome s l bytes held t route).state l _ refl))

-- a call with bytes by line l, whose calls came to cs, whose stream is f and of which the bytes bs were used
module _ (s : Station) (l : ℕ) (bytes held : List ℕ) (t : Terms) (a : Area) (route : List ℕ)
    (cs : List Call) (f : Stream) (bs : List ℕ) where
  abbrev has : List ℕ
  has = held_bytes (line_at s l) held

  abbrev both : List ℕ
  both = in_all s l bytes held t route

  abbrev count' : ℕ
  count' = held_count s l bytes held t route

  abbrev message : Call
  message = Message l (front_of both) t a

  abbrev came_of : Fed Station → List Call
  came_of r = cond (r.waits || unread r.result.answer) [] (message ∷ [])

  -- what is known after it, H being the line's held area then
  abbrev pub Went : List ℕ → Fed Station → Type 0
  Went H r =
      Going (line_at r.result.state l).pending H (cs ++ came_of r) (bytes_in l t a f (take r.used bytes))
      (bs ++ take r.used bytes)

  -- a refusal leaves all
  went-refused : (H : List ℕ) → Going (line_at s l).pending H cs f bs → (n : ℕ) → unread n ≡ true
      → Went H (refused_feed count' bytes held route n s)
  went-refused H g n u = rw (u, append-nil cs, append-nil bs) g

  module _ (eight : length s.lines ≡ 8) (g : Going (line_at s l).pending held cs f bs)
      (p : Passed s l bytes held t route) where
    open_yet : f.over ≡ false
    open_yet = sym g.over ∙ p.open'

    so_far : has ≡ f.rest
    so_far = g.rest open_yet

    -- with what stands before the bytes brought as it is held
    as_held : (P : List ℕ → Type 0) → P f.rest → P has
    as_held P r = subst P (sym so_far) r

    -- the record of the line after the call
    line-now : (s' : Station) (x : Line) → length s'.lines ≡ 8 → line_at (with_line s' l x) l ≡ x
    line-now s' x e = line_set s' l x (let h = p.line in omega arith)

    went_on : extent_of both ≡ 4 → (H : List ℕ) → take (count' + length bytes) H ≡ both
        → Went H (waiting_feed count' bytes held route (on_line (holding (count' + length bytes)) l s))
    went_on e H there =
        let x : Line = holding (count' + length bytes) (line_at s l) in
        rw (take-length bytes, append-nil cs, line-now s x eight)
        (as_held (λ r. extent_of (r ++ bytes) ≡ 4 → take (count' + length bytes) H ≡ r ++ bytes
        → Going x.pending H cs (bytes_in l t a f bytes) (bs ++ bytes))
        (λ e'. going_on g open_yet l t a bytes x.pending H e' p.open') e there)

    -- a message is completed: r is what is held of it, k bytes
    abbrev Done : Line → List ℕ → List ℕ → ℕ → Type 0
    Done x H r k =
        Going x.pending H (cs ++ (Message l (front_of (r ++ bytes)) t a ∷ []))
        (bytes_in l t a f (take (size_at_front (r ++ bytes) - k) bytes))
        (bs ++ take (size_at_front (r ++ bytes) - k) bytes)

    went-whole : (s' : Station) (x : Line) (H : List ℕ) → length s'.lines ≡ 8 → (extent_of both ≡ 4 → ⊥)
        → x.pending.shut ≡ eqb (extent_of both) 5 → x.pending.count ≡ 0
        → Done (line_at (with_line s' l x) l) H has count'
    went-whole s' x H e n so none =
        subst (λ y. Done y H has count') (sym (line-now s' x e))
        (subst (Done x H has) p.counted
        (as_held (λ r. (extent_of (r ++ bytes) ≡ 4 → ⊥) → x.pending.shut ≡ eqb (extent_of (r ++ bytes)) 5
        → Done x H r (length r))
        (λ n so. going-whole g open_yet l t a bytes x.pending H n so none) n so))

    went-over : extent_of both ≡ 5 → Went held (over_feed count' bytes held route (on_line shut_line l s))
    went-over e =
        subst (λ n. Going (line_at (on_line shut_line l s) l).pending held (cs ++ (message ∷ []))
        (bytes_in l t a f (take (n - count') bytes)) (bs ++ take (n - count') bytes))
        (ap (λ n. cond (eqb n 5) 23 (23 + size_of both)) e)
        (went-whole s (shut_line (line_at s l)) held eight (λ z. omega arith) (sym (ap (λ n. eqb n 5) e)) refl)

    went-taken : (H : List ℕ) → extent_of both ≡ 0 → ByType s l bytes held t route
        → Going (line_at (dropped l (outcome s l bytes held t route)).state l).pending H
        (cs ++ cond (unread (outcome s l bytes held t route).answer) [] (message ∷ []))
        (bytes_in l t a f (take (size_at_front both - count') bytes)) (bs ++ take (size_at_front both - count') bytes)
    went-taken H e b =
        let s' : Station = (outcome s l bytes held t route).state in
        let held' = (held-unread s).message_held usual_limit l (front_of both) t route l in
        rw (typed-read (outcome s l bytes held t route).answer b.answer)
        (went-whole s' (holding 0 (line_at s' l)) H ((message-lives s usual_limit l (front_of both) t route).count ∙ eight)
        (λ z. omega arith)
        (ap (λ (x : Pending). x.shut) held' ∙ p.open' ∙ sym (ap (λ n. eqb n 5) e)) refl)

  -- every call with the line's own held area
  pub went-own : length s.lines ≡ 8 → Going (line_at s l).pending held cs f bs
      → Went (feed_outcome s l bytes held t route).held (feed_outcome s l bytes held t route)
  went-own eight g =
      of_feed s l bytes held t route
      (λ r. (r.waits ≡ true → take (count' + length bytes) r.held ≡ both) → Went r.held r)
      (λ n _ _ u _. went-refused held g n u)
      (λ p _ e there. went_on eight g p e _ (there refl))
      (λ p _ e _. went-over eight g p e)
      (λ p _ e b _. went-taken eight g p _ e b)
      (λ w. ((feed-leaves s l bytes held t route).waiting' w).1)

  -- one with another, which is too short
  pub went-lent : (H : List ℕ) → length held < held_size → Going (line_at s l).pending H cs f bs
      → Went H (feed_outcome s l bytes held t route)
  went-lent H short g =
      of_feed s l bytes held t route (Went H)
      (λ n _ _ u. went-refused H g n u)
      (λ p _ _. absurd (too_long p))
      (λ p _ _. absurd (too_long p))
      (λ p _ _ _. absurd (too_long p))
    where
      too_long : Passed s l bytes held t route → ⊥
      too_long p = omega (arith, p.long)
