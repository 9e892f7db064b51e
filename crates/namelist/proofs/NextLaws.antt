-- Which text is the next behind a place: where offsets rise the one of the next pair, and else the one with the least
-- offset.
use Prim.Native.Nat.{ℕ, ◌+◌, ◌≤◌, ◌<◌}
use mathlib.Core.Path.{◌≡◌, refl}
use mathlib.Core.Bool.{Bool, true, false}
use mathlib.Core.Logic.{◌⊎◌, inl, inr, ⊎_elim}
use mathlib.Core.List.{List}
use native.Mathlib.Omega.{arith}
use native.Mathlib.Decide.{ℕ_discrete, dec_lt}
use Rattle.namearea.specs.Area.{text_from, count_in, span_at, spans_of}
use Rattle.namearea.specs.Good.{good_list, rising_from}
use Rattle.namearea.proofs.GoodLaws.{listed, rising-at}
use Rattle.laws.proofs.Refusals.{clash}
use Rattle.namelist.specs.Gaps.{Least, Rest, Next}

-- what holds before place i and at place i holds before the next
pub one_more : (P : ℕ → Type 0) (i : ℕ) → ((k : ℕ) → k < i → P k) → P i → (k : ℕ) → k < i + 1 → P k
one_more P i h p k l = by (ℕ_discrete k i)
  where
    by : Dec (k ≡ i) → P k
    by (yes e) = rw e p
    by (no n) = h k (omega arith)

-- ---- offsets that rise

pub rest-start : (a : List ℕ) → good_list a ≡ true → rising_from 0 (spans_of (count_in a) a) ≡ true → Rest a 0 text_from
rest-start a e r =
    record {
      gone = λ j h l. absurd (omega arith);
      still = λ j h l. ((listed a e).inside j l).0;
      order = λ j k h g l. rising-at (count_in a) a r j k g l;
    }

-- ---- the next text

pub next-rising : (a : List ℕ) (rising : Bool) (i from : ℕ) → Rest a i from → Next a rising i from i
next-rising a rising i from r =
    record {
      which = record {
        some = λ h. r.still i (omega arith) h;
        least = least;
        none = λ h j l. r.gone j (omega arith) l;
      };
      same = λ _. refl;
    }
  where
    least : i < count_in a → (j : ℕ) → j < count_in a → from ≤ (span_at a j).offset
        → (span_at a i).offset ≤ (span_at a j).offset
    least h j l p = by (dec_lt j i) (ℕ_discrete j i)
      where
        by : Dec (j < i) → Dec (j ≡ i) → (span_at a i).offset ≤ (span_at a j).offset
        by (yes q) _ = let g = r.gone j q l in absurd (omega arith)
        by (no q) (yes e) = rw e (omega arith)
        by (no q) (no n) = let g = r.order i j (omega arith) (omega arith) l in omega arith

pub next-least : (a : List ℕ) (rising : Bool) (i from r : ℕ) → rising ≡ false → Least a from r → Next a rising i from r
next-least a rising i from r e w = record { which = w; same = λ t. absurd (clash t e) }

-- the least offset so far, of the first k pairs, and its pair
pub record Lowest (a : List ℕ) (from k best least : ℕ) : Type 0 where
  pub small : (j : ℕ) → j < k → (span_at a j).offset < 4294967296
  pub low : (j : ℕ) → j < k → from ≤ (span_at a j).offset → least ≤ (span_at a j).offset
  pub which : ((best ≡ count_in a) × (least ≡ 4294967296))
      ⊎ ((best < count_in a) × (least ≡ (span_at a best).offset) × (from ≤ (span_at a best).offset))

module _ {a : List ℕ} {from : ℕ} where
  pub lowest_start : Lowest a from 0 (count_in a) 4294967296
  lowest_start =
      record {
        small = λ j h. absurd (omega arith);
        low = λ j h p. absurd (omega arith);
        which = inl (refl, refl);
      }

  module _ {k best least : ℕ} (s : (span_at a k).offset < 4294967296) (l : Lowest a from k best least) where
    pub lowest_pass : (from ≤ (span_at a k).offset → least ≤ (span_at a k).offset) → Lowest a from (k + 1) best least
    lowest_pass p =
        record {
          small = one_more (λ j. (span_at a j).offset < 4294967296) k l.small s;
          low = one_more (λ j. from ≤ (span_at a j).offset → least ≤ (span_at a j).offset) k l.low p;
          which = l.which;
        }

    pub lowest_take : k < count_in a → from ≤ (span_at a k).offset → (span_at a k).offset < least
        → Lowest a from (k + 1) k (span_at a k).offset
    lowest_take h p q =
        record {
          small = one_more (λ j. (span_at a j).offset < 4294967296) k l.small s;
          low =
              one_more (λ j. from ≤ (span_at a j).offset → (span_at a k).offset ≤ (span_at a j).offset) k
              (λ j g o. let m = l.low j g o in omega arith) (λ _. omega arith);
          which = inr (h, refl, p);
        }

  -- pair k is taken where its offset is not below `from` and below the least so far, and is passed elsewhere
  pub lowest_step : {k best least b l : ℕ} → (span_at a k).offset < 4294967296 → Lowest a from k best least
      → k < count_in a
      → ((from ≤ (span_at a k).offset) × ((span_at a k).offset < least) × (b ≡ k) × (l ≡ (span_at a k).offset))
      ⊎ ((from ≤ (span_at a k).offset → least ≤ (span_at a k).offset) × (b ≡ best) × (l ≡ least))
      → Lowest a from (k + 1) b l
  lowest_step s low h =
      ⊎_elim (λ w. rw (w.2, w.3) (lowest_take s low h w.0 w.1)) (λ w. rw (w.1, w.2) (lowest_pass s low w.0))

  pub lowest_end : {best least : ℕ} → Lowest a from (count_in a) best least → Least a from best
  lowest_end {best} {least} l =
      record {
        some = λ h. ⊎_elim (λ w. absurd (omega arith)) (λ w. w.2) l.which;
        least = λ h j g p. ⊎_elim (λ w. absurd (omega arith)) (λ w. rw w.1 at (l.low j g p)) l.which;
        none = λ h j g.
            ⊎_elim (λ w. last j g w.1 (dec_lt (span_at a j).offset from)) (λ w. absurd (omega arith)) l.which;
      }
    where
      last : (j : ℕ) → j < count_in a → least ≡ 4294967296 → Dec ((span_at a j).offset < from) → (span_at a j).offset < from
      last j g e (yes p) = p
      last j g e (no p) = let m = l.low j g (omega arith) in let n = l.small j g in absurd (omega arith)
