-- The tests by which a query goes on, and what they say in words: the place of a keyword, what a table withholds, the
-- lines it goes to.
-- Assumes nothing.
use Prim.Native.Nat.{ℕ, zero, suc, ◌-◌, ◌*◌, ◌/◌, ◌^◌, ◌≤◌}
use native.Mathlib.Nat.{mul-div_cancel, one-le-pow, pow-suc, div-eq_of_lt, mul-zero, zero-div}
use native.Mathlib.Omega.{arith}
use mathlib.Core.Path.{◌≡◌, refl, sym, ap, ◌∙◌, subst}
use mathlib.Core.Bool.{Bool, true, false, cond, not, ◌&&◌, ◌||◌}
use mathlib.Core.Logic.Iff
use mathlib.Core.Logic.{◌↔◌, ⊎_elim}
use mathlib.Core.List.{List, [], ◌∷◌, map}
use lib.Dec.{eqb, leb}
use lib.ListN.{get_or}
use borrow.Author.Tests.{leb-true, lt-leb, eqb-true, eq-eqb}
use Rattle.laws.specs.Tests.{any, all}
use Rattle.laws.proofs.Refusals.{clash, and_fst, and_snd, or_split, or_left, or_right}
use Rattle.laws.proofs.Words.{and_iff, none_iff, other_iff, most_iff}
use Rattle.wire.specs.Header.{header_in, payload_of}
use Rattle.keywords.specs.Keywords.{keywords_of}
use Rattle.keywords.specs.Hash.{hash_of, place_of, scaled}
use Rattle.keywords.proofs.HashLaws.{hash-below}
use Rattle.keywords.proofs.PlaceLaws.{place-scaled}
use Rattle.tables.specs.Tables.{settled, lengths}
use Rattle.tables.specs.Admission.{entry_of, withholds}
use Rattle.tables.proofs.AdmissionLaws.{withheld_where}
use Rattle.protocol.specs.Lines.{is_other}
use Rattle.protocol.specs.Queries.{text_in, life_of, passes, goes_on}
use Rattle.protocol.specs.Expected.{Expected}
use Rattle.protocol.specs.History.{Update, before_reset, before_run, inside_run, spoiled, speaks}
use Rattle.protocol.specs.Demand3.{halvings, bits_of, entry_for, Stopped, Withheld, life_left, MayGo, Forwarded}
use Rattle.protocol.proofs.Updates.{Sound}

-- what `halvings` finds
pub halvings-power : (f b : ℕ) → b ≤ f → halvings f (2 ^ b) ≡ b
halvings-power zero b l = omega arith
halvings-power (suc f) zero l = refl
halvings-power (suc f) (suc b) l =
    let one : 1 ≤ 2 ^ b = one-le-pow b 2 (omega arith) in
    let two : 2 ^ suc b ≡ 2 ^ b * 2 = pow-suc 2 b in
    let more : leb (2 ^ suc b) 1 ≡ false = lt-leb (2 ^ suc b) 1 (omega (arith, one, two)) in
    let half : 2 ^ suc b / 2 ≡ 2 ^ b = ap (λ x. x / 2) two ∙ mul-div_cancel (2 ^ b) (omega arith) in
    ap (λ c. cond c 0 (suc (halvings f (2 ^ suc b / 2)))) more
    ∙ ap suc (ap (halvings f) half ∙ halvings-power f b (omega arith))

-- a length that a RESET may carry is 2 to some power
power-among : (n : ℕ) (bs : List ℕ) → all (λ b. leb b 32) bs ≡ true → any (eqb n) (map (λ b. 2 ^ b) bs) ≡ true
    → (b : ℕ) × (b ≤ 32) × (n ≡ 2 ^ b)
power-among n [] h e = absurd (clash e refl)
power-among n (b ∷ bs) h e =
    ⊎_elim (λ z. (b, leb-true b 32 (and_fst (leb b 32) (all (λ b. leb b 32) bs) h), eqb-true n (2 ^ b) z))
    (λ z. power-among n bs (and_snd (leb b 32) (all (λ b. leb b 32) bs) h) z)
    (or_split (eqb n (2 ^ b)) (any (eqb n) (map (λ b. 2 ^ b) bs)) e)

exponents : List ℕ
exponents = 2 ∷ 3 ∷ 4 ∷ 5 ∷ 6 ∷ 7 ∷ 8 ∷ 9 ∷ 10 ∷ 11 ∷ 12 ∷ 13 ∷ 14 ∷ 15 ∷ 16 ∷ []

lengths-powers : (n : ℕ) → any (eqb n) lengths ≡ true → (b : ℕ) × (b ≤ 32) × (n ≡ 2 ^ b)
unfolding exponents
lengths-powers n e = power-among n exponents refl e

pub scaled-place : (n : ℕ) (k : List ℕ) → any (eqb n) (0 ∷ lengths) ≡ true → scaled n (hash_of k) ≡ place_of (bits_of n) k
scaled-place n k e =
    ⊎_elim
    (λ z. let y : n ≡ 0 = eqb-true n 0 z in
    subst (λ (x : ℕ). scaled x (hash_of k) ≡ place_of (bits_of x) k) (sym y)
    (ap (λ x. x / 2 ^ 32) (mul-zero (hash_of k)) ∙ zero-div (2 ^ 32) ∙ sym (div-eq_of_lt (hash-below k))))
    (λ z. let b = lengths-powers n z in
    subst (λ (x : ℕ). scaled x (hash_of k) ≡ place_of (bits_of x) k) (sym b.2)
    (place-scaled b.0 k b.1 ∙ ap (λ x. place_of x k) (sym (halvings-power 32 b.0 b.1))))
    (or_split (eqb n 0) (any (eqb n) lengths) e)

-- a table that is expected and sound
module _ (room : ℕ) (e : Expected) (sound : Sound room e.held) where
  entry-same : (k : List ℕ) → entry_of e.held (hash_of k) ≡ entry_for e k
  entry-same k =
      ap (λ i. get_or e.held.entries i 0)
      (scaled-place e.held.table.length k sound.good ∙ ap (λ n. place_of (bits_of n) k) (sym sound.full))

  abbrev withheld : List ℕ → ℕ → Bool
  withheld text ttl = withholds e.held (keywords_of text) ttl

  abbrev passing : List ℕ → ℕ → Bool
  passing text ttl = passes e.live e.held text ttl

  withheld_iff : (text : List ℕ) (ttl : ℕ) → (withheld text ttl ≡ true) ↔ Withheld e text ttl
  withheld_iff text ttl = withheld_where e.held (entry_for e) entry-same (keywords_of text) ttl

  pub passes_iff : (text : List ℕ) (ttl : ℕ)
      → (passing text ttl ≡ true) ↔ ((e.live ≡ true) × (Withheld e text ttl → ⊥))
  passes_iff text ttl =
      and_iff e.live (not (withheld text ttl)) Iff.rfl
      (none_iff (withheld text ttl) (withheld_iff text ttl))

  pub goes_iff : (limit L l : ℕ) (m : List ℕ)
      → (goes_on (life_of limit (header_in m)) l L e.live e.held (text_in (payload_of m)) ≡ true)
      ↔ (MayGo limit e L l m × (Withheld e (text_in (payload_of m)) (life_left limit m - 1) → ⊥))
  goes_iff limit L l m =
      let life : ℕ = life_left limit m in
      let text : List ℕ = text_in (payload_of m) in
      let p = passes_iff text (life - 1) in
      let q = and_iff (leb 2 life) (passing text (life - 1)) (most_iff 2 life) p in
      let r = and_iff (is_other l L) (leb 2 life && passing text (life - 1)) (other_iff L l) q in (
        (λ z. let w = r.0 z in ((w.1.1.0, w.0, w.1.0), w.1.1.1)),
        (λ w. r.1 (w.0.1, (w.0.2, (w.0.0, w.1)))),
      )

  -- so the expected table withholds in no quiet period, and otherwise exactly what some keyword stops
  module _ (us : List Update) (told : eqb e.held.table.mark settled ≡ speaks us)
      (may : Type 0) (text : List ℕ) (ttl : ℕ) (sent : Bool)
      (x : (sent ≡ true) ↔ (may × (Withheld e text ttl → ⊥))) where
    quiet-sent : (before_reset us || (spoiled us || (before_run us || inside_run us))) ≡ true → may → sent ≡ true
    quiet-sent z m = x.1 (m, λ v. clash (sym told ∙ eq-eqb e.held.table.mark settled v.0) (ap not z))

    stopped_iff : speaks us ≡ true → may → (sent ≡ false) ↔ Stopped e text ttl
    stopped_iff s m = ((λ z. stops z (withheld text ttl) refl), (λ k. unsends k sent refl))
      where
        stops : sent ≡ false → (b : Bool) → withheld text ttl ≡ b → Stopped e text ttl
        stops z true y = ((withheld_iff text ttl).0 y).1
        stops z false y = absurd (clash (x.1 (m, λ v. clash ((withheld_iff text ttl).1 v) y)) z)

        unsends : Stopped e text ttl → (b : Bool) → sent ≡ b → sent ≡ false
        unsends k true y = absurd ((x.0 y).1 (eqb-true e.held.table.mark settled (told ∙ s), k))
        unsends k false y = y

    pub forwarded : Forwarded e us may text ttl sent
    forwarded =
        record {
          exactly = x;
          no_reset = λ z. quiet-sent (or_left (before_reset us) _ z);
          no_run = λ z. later (or_right (spoiled us) _ (or_left (before_run us) _ z));
          mid_run = λ z. later (or_right (spoiled us) _ (or_right (before_run us) _ z));
          after_refusal = λ z. later (or_left (spoiled us) _ z);
          otherwise = stopped_iff;
        }
      where
        later : (spoiled us || (before_run us || inside_run us)) ≡ true → may → sent ≡ true
        later z = quiet-sent (or_right (before_reset us) _ z)
