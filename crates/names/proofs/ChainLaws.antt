-- Names are chained one by one: the next becomes the head of its bucket, and its link tells the head before it.
use Prim.Native.Nat.{ℕ, ◌+◌, ◌-◌, ◌≤◌, ◌<◌}
use mathlib.Core.Path.{◌≡◌, refl, sym, ap, ◌∙◌}
use mathlib.Core.Bool.{Bool, true, false}
use mathlib.Core.List.{List}
use native.Mathlib.Omega.{arith}
use lib.ListN.{get_or, set, length-set, replicate, get_or-replicate, length-replicate}
use lib.Seq.{get_or-set_same, get_or-set_other}
use Rattle.std.specs.Prelude.{Option, Some, None, is_some}
use Rattle.laws.proofs.Refusals.{clash}
use Rattle.laws.proofs.Words.{refuted}
use Rattle.namearea.specs.Area.{count_in, name_at, names_in}
use Rattle.namearea.specs.Good.{pairwise, differ}
use Rattle.namearea.proofs.GoodLaws.{distinct-at, of_distinct}
use Rattle.names.specs.Chains.{hash_of, bucket_in, tag_in, bucket_of, tag_of, told_of}
use Rattle.names.specs.Chains.{Last, Chained, Walkable, Walked, ToldApart}
use Rattle.names.proofs.Cases.{same_or}
use Rattle.names.proofs.WalkLaws.{bucket-low, bucket-is, tag_is, head-low, can-walk, walked_all}

-- nothing is chained yet
pub chain-none : (name : ℕ → List ℕ) → Chained name 0 (replicate 512 0) (replicate 512 0) (replicate 512 0)
chain-none name =
    record {
      size = length-replicate {A = ℕ} 512 0;
      head = λ b h. rw (get_or-replicate {A = ℕ} 512 b 0 0 h)
          (record { low = omega arith; skips = λ m g l e. omega arith; own = λ g. absurd (omega arith) });
      linked =
          record {
            size = length-replicate {A = ℕ} 512 0;
            tag-size = length-replicate {A = ℕ} 512 0;
            link = λ j h. absurd (omega arith);
            tag = λ j h. absurd (omega arith);
          };
    }

-- one place more, of a name with another bucket
last_more : (name : ℕ → List ℕ) (b i next : ℕ) → (bucket_of (name i) ≡ b → ⊥) → Last name b i next
    → Last name b (i + 1) next
last_more name b i next other l =
    record {
      low = omega (arith, l.low);
      skips = λ m h g e.
          same_or m i (λ q. other (rw q at e)) (λ q. l.skips m h (omega arith) e);
      own = l.own;
    }

-- the place itself
last-own : (name : ℕ → List ℕ) (i : ℕ) → Last name (bucket_of (name i)) (i + 1) (i + 1)
last-own name i =
    record {
      low = omega arith;
      skips = λ m h g e. omega arith;
      own = λ h. let q : i + 1 - 1 ≡ i = omega arith in ap (λ k. bucket_of (name k)) q;
    }

module _ (name : ℕ → List ℕ) (i : ℕ) (heads links tags : List ℕ) (c : Chained name i heads links tags)
    (few : i < 512) where
  abbrev own : ℕ
  own = bucket_of (name i)

  heads-more : (b : ℕ) → b < 512 → Last name b (i + 1) (get_or (set heads own (i + 1)) b 0)
  heads-more b h =
      same_or b own
      (λ q. rw (q, get_or-set_same heads own (i + 1) 0 (omega (arith, c.size, bucket-low (name i)))) (last-own name i))
      (λ q.
      rw (get_or-set_other heads own b (i + 1) 0 q)
      (last_more name b i (get_or heads b 0) (λ e. q (sym e)) (c.head b h)))

  links-more : (j : ℕ) → j < i + 1 → Last name (bucket_of (name j)) j (get_or (set links i (get_or heads own 0)) j 0)
  links-more j h =
      same_or j i
      (λ q.
      rw (q, get_or-set_same links i (get_or heads own 0) 0 (omega (arith, c.linked.size)))
      (c.head own (bucket-low (name i))))
      (λ q. rw (get_or-set_other links i j (get_or heads own 0) 0 q) (c.linked.link j (omega arith)))

  tags-more : (j : ℕ) → j < i + 1 → get_or (set tags i (tag_of (name i))) j 0 ≡ tag_of (name j)
  tags-more j h =
      same_or j i
      (λ q. rw (q, get_or-set_same tags i (tag_of (name i)) 0 (omega (arith, c.linked.tag-size))))
      (λ q. rw (get_or-set_other tags i j (tag_of (name i)) 0 q) (c.linked.tag j (omega arith)))

  pub chain_more : Chained name (i + 1) (set heads own (i + 1)) (set links i (get_or heads own 0))
      (set tags i (tag_of (name i)))
  chain_more =
      record {
        size = rw length-set c.size;
        head = heads-more;
        linked =
            record {
              size = rw length-set c.linked.size;
              tag-size = rw length-set c.linked.tag-size;
              link = links-more;
              tag = tags-more;
            };
      }

-- ---- the pass over the names of an area

-- whether a walk told a place
pub told_some : (told : Option ℕ) {b : Bool} → b ≡ is_some told → b ≡ true → told_of told ≡ 0 → ⊥
told_some None e f z = clash f e
told_some (Some place) e f z = omega arith

pub told-none : (told : Option ℕ) {b : Bool} → b ≡ is_some told → b ≡ false → told_of told ≡ 0
told-none None e f = refl
told-none (Some place) e f = absurd (clash e f)

-- the first i names are chained, and no two of them are the same
pub record Passed (a : List ℕ) (i : ℕ) (heads links tags : List ℕ) : Type 0 where
  pub chained : Chained (name_at a) i heads links tags
  pub distinct : (j k : ℕ) → j < k → k < i → name_at a j ≡ name_at a k → ⊥

pub pass-none : (a heads links tags : List ℕ) → Chained (name_at a) 0 heads links tags → Passed a 0 heads links tags
pass-none a heads links tags c = record { chained = c; distinct = λ j k h g e. omega arith }

-- the next name, x, and the walk in search of it among those before it
module _ (a : List ℕ) (i : ℕ) (heads links tags : List ℕ) (p : Passed a i heads links tags) (few : i < 512)
    (x : List ℕ) where
  at_most : i ≤ 512
  at_most = omega arith

  pub next_walkable : Walkable (name_at a) links tags (get_or heads (bucket_of x) 0) x (tag_of x)
  next_walkable = can-walk (name_at a) i heads links tags p.chained at_most x

  module _ (n : x ≡ name_at a i) (told : ℕ) (w : Walked (name_at a) (get_or heads (bucket_of x) 0) x told) where
    -- it was not found, and is chained by its hash
    pub pass-more : (hash : ℕ) → hash ≡ hash_of x → told ≡ 0 → (heads' links' tags' : List ℕ)
        → heads' ≡ set heads (bucket_in hash) (i + 1)
        → links' ≡ set links i (get_or heads (bucket_in hash) 0)
        → tags' ≡ set tags i (tag_in hash)
        → Passed a (i + 1) heads' links' tags'
    pass-more hash e z heads' links' tags' f g h =
        let b : bucket_in hash ≡ bucket_of (name_at a i) = bucket-is x hash (bucket_in hash) e refl ∙ ap bucket_of n in
        let t : tag_in hash ≡ tag_of (name_at a i) = tag_is x hash (tag_in hash) e refl ∙ ap tag_of n in
        rw (f, g, h, b, t)
        (record {
          chained = chain_more (name_at a) i heads links tags p.chained few;
          distinct = λ j k l m q.
              same_or k i
              (λ o.
              walked_all (name_at a) i heads links tags p.chained at_most x told w j
              (omega arith) (omega arith) (rw o at q ∙ sym n))
              (λ o. p.distinct j k l (omega arith) q);
        })

    -- it was found
    pub pass-met : (told ≡ 0 → ⊥) → i < count_in a → pairwise differ (names_in a) ≡ false
    pass-met some h =
        refuted (pairwise differ (names_in a)) (λ e.
        distinct-at a e (told - 1) i
        (omega (arith, w.low, head-low (name_at a) i heads links tags p.chained at_most x)) h
        (w.found (omega arith) ∙ n))

pub pass_all : (a heads links tags : List ℕ) → Passed a (count_in a) heads links tags → ToldApart a true heads links tags
pass_all a heads links tags p = record { tells = sym (of_distinct a p.distinct); chained = λ _. p.chained }

pub pass-stop : (a heads links tags : List ℕ) → pairwise differ (names_in a) ≡ false → ToldApart a false heads links tags
pass-stop a heads links tags e = record { tells = sym e; chained = λ q. absurd (clash q refl) }
