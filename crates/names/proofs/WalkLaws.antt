-- Along a chain: the places between what is told now and where the walk began hold no such name.
use Prim.Native.Nat.{ℕ, ◌-◌, ◌≤◌, ◌<◌}
use mathlib.Core.Path.{◌≡◌, refl, sym, ap, ◌∙◌}
use mathlib.Core.Bool.{Bool, true, false}
use mathlib.Core.List.{List}
use native.Mathlib.Omega.{arith}
use lib.ListN.{get_or}
use Rattle.laws.proofs.Refusals.{clash}
use Rattle.laws.proofs.Words.{refuted}
use Rattle.namearea.specs.declared.Span.{Span}
use Rattle.namearea.specs.Area.{span_at, name_of, name_at}
use Rattle.namearea.specs.Good.{same_text}
use Rattle.namearea.proofs.GoodLaws.{same-is, is_same}
use Rattle.names.specs.Chains.{hash_of, bucket_in, tag_in, bucket_of, tag_of}
use Rattle.names.specs.Chains.{Last, Chained, Comparable, Walkable, Walked}
use Rattle.names.proofs.Cases.{either}

pub bucket-low : (t : List ℕ) → bucket_of t < 512
unfolding bucket_of
bucket-low t = omega arith

-- a bucket and a tag as the code comes by them
pub bucket-is : (t : List ℕ) (hash b : ℕ) → hash ≡ hash_of t → b ≡ bucket_in hash → b ≡ bucket_of t
unfolding bucket_of
bucket-is t hash b e f = f ∙ ap bucket_in e

pub tag_is : (t : List ℕ) (hash tag : ℕ) → hash ≡ hash_of t → tag ≡ tag_in hash → tag ≡ tag_of t
unfolding tag_of
tag_is t hash tag e f = f ∙ ap tag_in e

-- ---- a name and its tag compared with those at a place

-- the texts are compared
pub same_at : (a x : List ℕ) (i : ℕ) (s : Span) (y : List ℕ) (t : Bool) → s ≡ span_at a i → y ≡ name_of a s
    → t ≡ same_text x y → t ≡ same_text x (name_at a i)
same_at a x i s y t e f g = g ∙ ap (same_text x) (f ∙ ap (name_of a) e)

-- the tags differ, and so do the names
pub other_at : (a x : List ℕ) (i : ℕ) (tags : List ℕ) (tag : ℕ) → Comparable (name_at a) tags i x tag
    → (get_or tags i 0 ≡ tag → ⊥) → false ≡ same_text x (name_at a i)
other_at a x i tags tag c g =
    sym (refuted (same_text x (name_at a i)) (λ e.
    g (c.own ∙ ap tag_of (sym (same-is x (name_at a i) e)) ∙ sym c.tagged)))

-- ---- the walk

-- it has come to what `at` tells
pub record Walking (name : ℕ → List ℕ) (from : ℕ) (x : List ℕ) (at : ℕ) : Type 0 where
  pub low : at ≤ from
  pub skips : (m : ℕ) → at ≤ m → m < from → name m ≡ x → ⊥
  pub own : 0 < at → bucket_of (name (at - 1)) ≡ bucket_of x

module _ (name : ℕ → List ℕ) (links tags : List ℕ) (from : ℕ) (x : List ℕ) (tag : ℕ)
    (w : Walkable name links tags from x tag) where
  pub walk_start : Walking name from x from
  walk_start = record { low = omega arith; skips = λ m h g e. omega arith; own = w.own }

  module _ (at : ℕ) (v : Walking name from x at) where
    pub walk_end : at ≤ 0 → Walked name from x 0
    walk_end h =
        record {
          low = omega arith;
          skips = λ m l g e. v.skips m (omega arith) g e;
          found = λ l. absurd (omega arith);
        }

    module _ (h : 0 < at) where
      -- the link of the place that was looked at
      link : Last name (bucket_of (name (at - 1))) (at - 1) (get_or links (at - 1) 0)
      link = w.linked.link (at - 1) (omega (arith, v.low))

      pub walk_comparable : Comparable name tags (at - 1) x tag
      walk_comparable =
          record {
            few = omega (arith, v.low, w.few);
            own = w.linked.tag (at - 1) (omega (arith, v.low));
            tagged = w.tagged;
          }

      pub walk-found : same_text x (name (at - 1)) ≡ true → Walked name from x at
      walk-found e = record { low = v.low; skips = v.skips; found = λ _. sym (same-is x (name (at - 1)) e) }

      pub walk-less : get_or links (at - 1) 0 < at
      walk-less = omega (arith, link.low)

      -- the places that the link skips have other buckets, and the one that was looked at has another name
      pub walk-on : same_text x (name (at - 1)) ≡ false → Walking name from x (get_or links (at - 1) 0)
      walk-on e =
          record {
            low = omega (arith, link.low, v.low);
            skips = λ m l g q.
                either at m
                (λ k. v.skips m k g q)
                (λ k.
                either (at - 1) m
                (λ b.
                let o : m ≡ at - 1 = omega arith in
                clash (is_same x (name (at - 1)) (sym (rw o at q))) e)
                (λ b. link.skips m l b (ap bucket_of q ∙ sym (v.own h))));
            own = λ g. link.own g ∙ v.own h;
          }

-- ---- where a walk begins

module _ (name : ℕ → List ℕ) (n : ℕ) (heads links tags : List ℕ) (c : Chained name n heads links tags)
    (few : n ≤ 512) (x : List ℕ) where
  head_of : Last name (bucket_of x) n (get_or heads (bucket_of x) 0)
  head_of = c.head (bucket_of x) (bucket-low x)

  pub head-low : get_or heads (bucket_of x) 0 ≤ n
  head-low = head_of.low

  pub can-walk : Walkable name links tags (get_or heads (bucket_of x) 0) x (tag_of x)
  can-walk =
      record {
        few = omega (arith, head_of.low);
        linked =
            record {
              size = c.linked.size;
              tag-size = c.linked.tag-size;
              link = λ j h. c.linked.link j (omega (arith, head_of.low));
              tag = λ j h. c.linked.tag j (omega (arith, head_of.low));
            };
        own = head_of.own;
        tagged = refl;
      }

  -- past what the walk told, no name is this one
  pub walked_all : (told : ℕ) → Walked name (get_or heads (bucket_of x) 0) x told → (m : ℕ) → told ≤ m → m < n
      → name m ≡ x → ⊥
  walked_all told w m h g q =
      either (get_or heads (bucket_of x) 0) m
      (λ k. head_of.skips m k g (ap bucket_of q))
      (λ k. w.skips m h k q)
