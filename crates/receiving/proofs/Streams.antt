-- The bytes of a stream, one after the other: those that do not end a message, and those up to its end; and what they
-- make of what is known of an open line.
-- Assumes nothing.
use Prim.Native.Nat.{ℕ, suc, ◌+◌, ◌-◌, ◌≤◌, ◌<◌}
use native.Mathlib.Omega.{arith}
use mathlib.Core.Path.{◌≡◌, refl, sym, ap, ap₂, subst, ◌∙◌}
use mathlib.Core.Bool.{Bool, true, false}
use mathlib.Core.List.{List, [], ◌∷◌, ◌++◌, append_assoc, append-nil}
use lib.Dec.{eqb}
use lib.ListN.{length, take, length-append}
use lib.Seq.{take_all}
use borrow.Author.Tests.{eqb-true, eqb-false, eq-eqb}
use Rattle.protocol.specs.declared.Pending.{Pending}
use Rattle.protocol.specs.Lines.{no_pending}
use Rattle.protocol.specs.Outcomes.{Terms}
use Rattle.protocol.specs.Runs.{Area, Call, Open, Close, Message, Ask}
use Rattle.receiving.specs.Feeding.{extent_of, size_at_front, front_of}
use Rattle.receiving.specs.Frames.{Stream, empty, pick_stream, bytes_in, byte_in, grown, ended, bytes_of}
use Rattle.receiving.proofs.Extents.{IsExtent, Four, Five, Zero, extent-cases, starts-before, five-more}
use Rattle.receiving.proofs.Extents.{zero_more, front-there, front-past, front-splits, size-at-front-more}
use Rattle.receiving.proofs.Extents.{front-more}

-- a byte, and then more
one_more : (p : List ℕ) (b : ℕ) (bs : List ℕ) → (p ++ (b ∷ [])) ++ bs ≡ p ++ (b ∷ bs)
one_more p b bs = append_assoc p (b ∷ []) bs

-- more bytes change nothing of a message that stands at the front
extent-more : (b more : List ℕ) → (extent_of b ≡ 4 → ⊥) → extent_of (b ++ more) ≡ extent_of b
extent-more b more n = by (extent-cases b)
  where
    by : IsExtent b → extent_of (b ++ more) ≡ extent_of b
    by (Four e) = absurd (n e)
    by (Five e) = five-more b more e ∙ sym e
    by (Zero e) = zero_more b more e ∙ sym e

-- bytes by line l, with these terms and this route area
module _ (l : ℕ) (t : Terms) (a : Area) where
  pub bytes_append : (f : Stream) (xs ys : List ℕ)
      → bytes_in l t a f (xs ++ ys) ≡ bytes_in l t a (bytes_in l t a f xs) ys
  bytes_append f [] ys = refl
  bytes_append f (x ∷ xs) ys = bytes_append (byte_in l t a f x) xs ys

  -- a byte more, by whether a payload was too large, and by whether it ends the message
  byte-over : (f : Stream) (b : ℕ) (x : Bool) → f.over ≡ x
      → byte_in l t a f b ≡ pick_stream x f (grown l t a f (f.rest ++ (b ∷ [])))
  byte-over f b x e = ap (λ y. pick_stream y f (grown l t a f (f.rest ++ (b ∷ [])))) e

  byte-grown : (f : Stream) (p : List ℕ) (x : Bool) → eqb (extent_of p) 4 ≡ x
      → grown l t a f p
      ≡ pick_stream x (record { whole = f.whole; rest = p; over = false }) (ended l t a f p (eqb (extent_of p) 5))
  byte-grown f p x e =
      ap (λ y. pick_stream y (record { whole = f.whole; rest = p; over = false })
      (ended l t a f p (eqb (extent_of p) 5))) e

  -- behind a payload that is too large nothing is a message
  pub bytes-over : (f : Stream) (xs : List ℕ) → f.over ≡ true → bytes_in l t a f xs ≡ f
  bytes-over f [] e = refl
  bytes-over f (x ∷ xs) e = ap (λ g. bytes_in l t a g xs) (byte-over f x true e) ∙ bytes-over f xs e

  -- bytes that do not end it
  pub bytes_on : (f : Stream) (bs : List ℕ) → f.over ≡ false → extent_of (f.rest ++ bs) ≡ 4
      → bytes_in l t a f bs ≡ record { whole = f.whole; rest = f.rest ++ bs; over = false }
  bytes_on f [] o e = λ i. record { whole = f.whole; rest = sym (append-nil f.rest) i; over = o i }
  bytes_on f (b ∷ bs) o e =
      let q : List ℕ = f.rest ++ (b ∷ []) in
      let more : extent_of (q ++ bs) ≡ 4 = ap extent_of (one_more f.rest b bs) ∙ e in
      let four : eqb (extent_of q) 4 ≡ true = eq-eqb (extent_of q) 4 (starts-before q bs more) in
      ap (λ g. bytes_in l t a g bs) (byte-over f b false o ∙ byte-grown f q true four)
      ∙ bytes_on (record { whole = f.whole; rest = q; over = false }) bs refl more
      ∙ ap (λ r. record { whole = f.whole; rest = r; over = false }) (one_more f.rest b bs)

  -- bytes up to its end, of those that are there
  abbrev Ends : Stream → List ℕ → List ℕ → Type 0
  Ends f bs both =
      bytes_in l t a f (take (size_at_front both - length f.rest) bs)
      ≡ ended l t a f (front_of both) (eqb (extent_of both) 5)

  pub bytes-end : (f : Stream) (bs : List ℕ) → f.over ≡ false → extent_of f.rest ≡ 4
      → (extent_of (f.rest ++ bs) ≡ 4 → ⊥) → Ends f bs (f.rest ++ bs)
  bytes-end f [] o e n = absurd (n (ap extent_of (append-nil f.rest) ∙ e))
  bytes-end f (b ∷ bs) o e n =
      subst (Ends f (b ∷ bs)) (one_more p b bs)
      (by (eqb (extent_of q) 4) refl (λ four. bytes-end next bs refl four unlike))
    where
      p : List ℕ
      p = f.rest

      q : List ℕ
      q = p ++ (b ∷ [])

      next : Stream
      next = record { whole = f.whole; rest = q; over = false }

      long : length q ≡ length p + 1
      long = length-append p (b ∷ [])

      unlike : extent_of (q ++ bs) ≡ 4 → ⊥
      unlike z = n (ap extent_of (sym (one_more p b bs)) ∙ z)

      by : (x : Bool) → eqb (extent_of q) 4 ≡ x → (extent_of q ≡ 4 → Ends next bs (q ++ bs)) → Ends f (b ∷ bs) (q ++ bs)
      by true x rest =
          let four : extent_of q ≡ 4 = eqb-true (extent_of q) 4 x in
          let past : length q < size_at_front (q ++ bs) = front-past q bs four unlike in
          let n : ℕ = size_at_front (q ++ bs) - length q in
          let so : size_at_front (q ++ bs) - length p ≡ suc n = omega (arith, long) in
          ap (λ k. bytes_in l t a f (take k (b ∷ bs))) so
          ∙ ap (λ g. bytes_in l t a g (take n bs)) (byte-over f b false o ∙ byte-grown f q true x)
          ∙ rest four
      by false x rest =
          let ends : extent_of q ≡ 4 → ⊥ = eqb-false (extent_of q) 4 x in
          let past : length p < size_at_front q = front-past p (b ∷ []) e ends in
          let there : size_at_front q ≤ length q = front-there q ends in
          let same : size_at_front (q ++ bs) ≡ size_at_front q = size-at-front-more q bs ends in
          let so : size_at_front (q ++ bs) - length p ≡ 1 = omega (arith, long) in
          let front : front_of (q ++ bs) ≡ q = front-more q bs ends ∙ take_all (size_at_front q) q (omega (arith, long)) in
          ap (λ k. bytes_in l t a f (take k (b ∷ bs))) so
          ∙ byte-over f b false o
          ∙ byte-grown f q false x
          ∙ sym (ap₂ (λ m n. ended l t a f m (eqb n 5)) front (extent-more q bs ends))

-- messages one after the other
pub bytes_of_append : (cs ds : List Call) → bytes_of (cs ++ ds) ≡ bytes_of cs ++ bytes_of ds
bytes_of_append [] ds = refl
bytes_of_append (Open l ∷ cs) ds = bytes_of_append cs ds
bytes_of_append (Close l ∷ cs) ds = bytes_of_append cs ds
bytes_of_append (Message l m t a ∷ cs) ds =
    ap (λ r. m ++ r) (bytes_of_append cs ds) ∙ sym (append_assoc m (bytes_of cs) (bytes_of ds))
bytes_of_append (Ask n text t a ∷ cs) ds = bytes_of_append cs ds

-- what is known of an open line: its record of what is pending, its held area, the calls it came to, its stream, and
-- the bytes used
pub record Going (x : Pending) (held : List ℕ) (cs : List Call) (f : Stream) (bs : List ℕ) : Type 0 where
  pub messages : cs ≡ f.whole
  pub over : x.shut ≡ f.over
  pub rest : f.over ≡ false → take x.count held ≡ f.rest
  pub used : bs ≡ bytes_of cs ++ f.rest
  pub begun : f.over ≡ false → extent_of f.rest ≡ 4

nothing-starts : extent_of [] ≡ 4
unfolding extent_of
nothing-starts = refl

-- a line that was just opened
pub going-anew : (held : List ℕ) → Going no_pending held [] empty []
going-anew held =
    record { messages = refl; over = refl; rest = λ _. refl; used = refl; begun = λ _. nothing-starts }

-- the line goes on with bytes that do not end its message, and with those up to its end
module _ {x : Pending} {held : List ℕ} {cs : List Call} {f : Stream} {bs : List ℕ} (g : Going x held cs f bs)
    (o : f.over ≡ false) (l : ℕ) (t : Terms) (a : Area) (bytes : List ℕ) (x' : Pending) (H : List ℕ) where
  abbrev all' : List ℕ
  all' = f.rest ++ bytes

  pub going_on : extent_of all' ≡ 4 → x'.shut ≡ false → take x'.count H ≡ all'
      → Going x' H cs (bytes_in l t a f bytes) (bs ++ bytes)
  going_on e so there =
      subst (λ h. Going x' H cs h (bs ++ bytes)) (sym (bytes_on l t a f bytes o e))
      (record {
        messages = g.messages;
        over = so;
        rest = λ _. there;
        used = ap (λ r. r ++ bytes) g.used ∙ append_assoc (bytes_of cs) f.rest bytes;
        begun = λ _. e;
      })

  abbrev up_to : List ℕ
  up_to = take (size_at_front all' - length f.rest) bytes

  abbrev came' : List Call
  came' = Message l (front_of all') t a ∷ []

  pub going-whole : (extent_of all' ≡ 4 → ⊥) → x'.shut ≡ eqb (extent_of all') 5 → x'.count ≡ 0
      → Going x' H (cs ++ came') (bytes_in l t a f up_to) (bs ++ up_to)
  going-whole n so none =
      let front = front-splits f.rest bytes (g.begun o) n in
      subst (λ h. Going x' H (cs ++ came') h (bs ++ up_to)) (sym (bytes-end l t a f bytes o (g.begun o) n))
      (record {
        messages = ap (λ c. c ++ came') g.messages;
        over = so;
        rest = λ _. ap (λ k. take k H) none;
        used = ap (λ r. r ++ up_to) g.used
            ∙ append_assoc (bytes_of cs) f.rest up_to
            ∙ ap (λ r. bytes_of cs ++ r) (sym front ∙ sym (append-nil (front_of all')))
            ∙ sym (bytes_of_append cs came')
            ∙ sym (append-nil (bytes_of (cs ++ came')));
        begun = λ _. nothing-starts;
      })
