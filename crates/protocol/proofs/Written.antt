-- Bytes that are messages can be cut into them in one way only; and bytes put together from messages of one type.
-- Assumes nothing.
use Prim.Native.Nat.{ℕ, zero, suc, ◌+◌, ◌≤◌}
use native.Mathlib.Omega.{arith}
use mathlib.Core.Path.{◌≡◌, refl, sym, ap, ap₂, ◌∙◌}
use mathlib.Core.Bool.{Bool, true, false, cond}
use mathlib.Core.List.{List, [], ◌∷◌, ◌++◌, append-nil, append_assoc}
use lib.Dec.{eqb}
use lib.ListN.{length, get_or, drop, length-append}
use lib.Seq.{drop_at}
use borrow.Author.Tests.{eqb-true, leb-true, eq-eqb, le-leb}
use Rattle.laws.specs.Tests.{any, all}
use Rattle.laws.proofs.Refusals.{clash, and_fst, and_snd, all_append, or_left, or_right, of_choice}
use Rattle.wire.specs.Header.{number_of, kind_of, ttl_of, hops_of, payload_of, message}
use Rattle.wire.proofs.HeaderLaws.{message-length, message-number, message-kind, message-ttl, message-hops}
use Rattle.wire.proofs.HeaderLaws.{message-size, message-payload}
use Rattle.protocol.specs.Written.{Part, well_cut, written, CutOnce, Writes, WrittenFor}
use Rattle.protocol.specs.Outcomes.{written_for}
use Rattle.protocol.proofs.Blind.{ReadsAlike, reads_more}

-- the first message is read off the bytes, whatever follows it
abbrev read_part : List ℕ → Part
read_part m =
    record { number = number_of m; kind = kind_of m; ttl = ttl_of m; hops = hops_of m; payload = payload_of m }

module _ (p : Part) (c : well_cut p ≡ true) (rest : List ℕ) where
  abbrev first : List ℕ
  first = message p.number p.kind p.ttl p.hops p.payload

  sixteen : length p.number ≡ 16
  sixteen = eqb-true (length p.number) 16 (and_fst (eqb (length p.number) 16) _ c)

  most : length p.payload ≤ 4096
  most = leb-true (length p.payload) 4096 (and_snd (eqb (length p.number) 16) _ c)

  long : length first ≡ 23 + length p.payload
  long = message-length p.number p.kind p.ttl p.hops p.payload sixteen

  reads : read_part (first ++ rest) ≡ p
  reads =
      let number : List ℕ = p.number in
      let kind : ℕ = p.kind in
      let ttl : ℕ = p.ttl in
      let hops : ℕ = p.hops in
      let payload : List ℕ = p.payload in
      let size = message-size number kind ttl hops payload sixteen (omega (arith, most)) in
      let alike : ReadsAlike (first ++ rest) first = reads_more first rest (omega (arith, size, long)) in
      λ i. record {
        number = (alike.number ∙ message-number number kind ttl hops payload sixteen) i;
        kind = (alike.kind ∙ message-kind number kind ttl hops payload sixteen) i;
        ttl = (alike.ttl ∙ message-ttl number kind ttl hops payload sixteen) i;
        hops = (alike.hops ∙ message-hops number kind ttl hops payload sixteen) i;
        payload = (alike.payload ∙ message-payload number kind ttl hops payload sixteen (omega (arith, most))) i;
      }

  reads-rest : drop (23 + length p.payload) (first ++ rest) ≡ rest
  reads-rest = drop_at first rest (23 + length p.payload) long

  not-empty : [] ≡ first ++ rest → ⊥
  not-empty e = absurd (omega (arith, ap length e, length-append first rest, long))

-- two cuts of the same bytes begin with the same message and go on alike
module _ (p q : Part) (c : well_cut p ≡ true) (d : well_cut q ≡ true) (xs ys : List ℕ)
    (e : first p c xs ++ xs ≡ first q d ys ++ ys) where
  same_first : p ≡ q
  same_first = sym (reads p c xs) ∙ ap read_part e ∙ reads q d ys

  same_rest : xs ≡ ys
  same_rest =
      sym (reads-rest p c xs)
      ∙ ap₂ (λ (r : Part) bs. drop (23 + length r.payload) bs) same_first e
      ∙ reads-rest q d ys

pub cut-once : CutOnce
cut-once [] [] f g e = refl
cut-once [] (q ∷ qs) f g e = absurd (not-empty q (and_fst (well_cut q) (all well_cut qs) g) (written qs) e)
cut-once (p ∷ ps) [] f g e = absurd (not-empty p (and_fst (well_cut p) (all well_cut ps) f) (written ps) (sym e))
cut-once (p ∷ ps) (q ∷ qs) f g e =
    let c : well_cut p ≡ true = and_fst (well_cut p) (all well_cut ps) f in
    let d : well_cut q ≡ true = and_fst (well_cut q) (all well_cut qs) g in
    let f' : all well_cut ps ≡ true = and_snd (well_cut p) (all well_cut ps) f in
    let g' : all well_cut qs ≡ true = and_snd (well_cut q) (all well_cut qs) g in
    ap₂ ◌∷◌ (same_first p q c d (written ps) (written qs) e)
    (cut-once ps qs f' g' (same_rest p q c d (written ps) (written qs) e))

-- a message for several lines
flagged : (to : List Bool) (k : ℕ) → get_or to k false ≡ true → any (λ b. b) to ≡ true
flagged [] k e = absurd (clash e refl)
flagged (b ∷ bs) zero e = or_left b (any (λ b. b) bs) e
flagged (b ∷ bs) (suc k) e = or_right b (any (λ b. b) bs) (flagged bs k e)

unflagged : (to : List Bool) → ((k : ℕ) → get_or to k false ≡ false) → any (λ b. b) to ≡ false
unflagged [] h = refl
unflagged (b ∷ bs) h = rw (h 0) (unflagged bs (λ k. h (suc k)))

pub written_for_lem : (to : List Bool) (bytes : List ℕ) → WrittenFor to bytes (written_for to bytes)
written_for_lem to bytes = record { some = λ k e. rw (flagged to k e); none = λ h. rw (unflagged to h) }

-- messages of one type
pub writes_none : (kind : ℕ) → Writes kind []
writes_none kind = record { parts = []; cut = refl; kinds = refl; are = refl }

pub writes_one : (number : List ℕ) (kind ttl hops : ℕ) (payload : List ℕ) → length number ≡ 16 → length payload ≤ 4096
    → Writes kind (message number kind ttl hops payload)
writes_one number kind ttl hops payload e h =
    record {
      parts = record { number = number; kind = kind; ttl = ttl; hops = hops; payload = payload } ∷ [];
      cut = rw (eq-eqb (length number) 16 e, le-leb (length payload) 4096 h);
      kinds = rw (eq-eqb kind kind refl);
      are = sym (append-nil _);
    }

written_append : (ps qs : List Part) → written ps ++ written qs ≡ written (ps ++ qs)
written_append [] qs = refl
written_append (p ∷ ps) qs =
    append_assoc (message p.number p.kind p.ttl p.hops p.payload) (written ps) (written qs)
    ∙ ap (λ bs. message p.number p.kind p.ttl p.hops p.payload ++ bs) (written_append ps qs)

pub writes_append : (kind : ℕ) (a b : List ℕ) → Writes kind a → Writes kind b → Writes kind (a ++ b)
writes_append kind a b x y =
    record {
      parts = x.parts ++ y.parts;
      cut = all_append well_cut x.parts y.parts x.cut y.cut;
      kinds = all_append (λ p. eqb p.kind kind) x.parts y.parts x.kinds y.kinds;
      are = ap₂ ◌++◌ x.are y.are ∙ written_append x.parts y.parts;
    }

pub writes_choice : (kind : ℕ) (b : Bool) (x y : List ℕ) → Writes kind x → Writes kind y → Writes kind (cond b x y)
writes_choice kind b x y p q = of_choice (Writes kind) b x y (λ _. p) (λ _. q)
