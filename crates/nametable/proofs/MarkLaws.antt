-- Entries marked one keyword, and one name, after another; and the whole output after a call.
use Prim.Native.Nat.{ℕ, ◌+◌, ◌≤◌, ◌<◌}
use mathlib.Core.Path.{◌≡◌, refl, sym, ap, ◌∙◌}
use mathlib.Core.List.{List, [], ◌∷◌, ◌++◌, map}
use lib.ListN.{length, set, length-set}
use Rattle.keywords.specs.Keywords.{lower, words_of}
use Rattle.keywords.specs.Hash.{hash_of, scaled, place_in}
use Rattle.keywords.proofs.CutLaws.{keywords_words}
use Rattle.keywords.proofs.HashLaws.{hash-lower}
use Rattle.namearea.specs.Area.{name_of, name_at, names_of}
use Rattle.namearea.proofs.SpanLaws.{left, left-all, left-next, left_end}
use Rattle.nametable.specs.Table.{places_of, own_places, with_ones}

pub ones_length : (ps es : List ℕ) → length (with_ones ps es) ≡ length es
unfolding with_ones
ones_length [] es = refl
ones_length (p ∷ ps) es = ones_length ps _ ∙ length-set es p _

ones_after : (ps qs es : List ℕ) → with_ones (ps ++ qs) es ≡ with_ones qs (with_ones ps es)
unfolding with_ones
ones_after [] qs es = refl
ones_after (p ∷ ps) qs es = ones_after ps qs _

-- the places of keywords as a text has them
abbrev pub word_places : ℕ → List (List ℕ) → List ℕ
word_places size words = map (place_in size) (map (map lower) words)

-- a loop over the keywords of a text: one is marked before those behind it, or none is left
module _ (size : ℕ) where
  pub text-all : (text : List ℕ) → word_places size (words_of text) ≡ places_of size text
  text-all text = ap (map (place_in size)) (sym (keywords_words text))

  pub text-on : (es word : List ℕ) (words : List (List ℕ)) (hash place : ℕ) → hash ≡ hash_of word
      → place ≡ scaled size hash
      → with_ones (word_places size (word ∷ words)) es ≡ with_ones (word_places size words) (set es place 1)
  unfolding with_ones
  text-on es word words hash place eh ep =
      ap (λ h. with_ones (word_places size words) (set es (scaled size h) 1)) (hash-lower word ∙ sym eh)
      ∙ ap (λ p. with_ones (word_places size words) (set es p 1)) (sym ep)

-- the places of the names from pair i on, of the first `count`
abbrev pub places_left : ℕ → ℕ → List ℕ → ℕ → List ℕ
places_left size count a i = own_places size (map (name_of a) (left count a i))

-- a loop at pair i: its name is marked before those behind it, or none is left
module _ (size count : ℕ) (a : List ℕ) where
  pub names-all : places_left size count a 0 ≡ own_places size (names_of count a)
  names-all = ap (λ ss. own_places size (map (name_of a) ss)) (left-all count a)

  module _ (i : ℕ) (es : List ℕ) where
    pub names-on : i < count → with_ones (places_left size count a i) es
        ≡ with_ones (places_left size count a (i + 1)) (with_ones (places_of size (name_at a i)) es)
    unfolding own_places
    names-on h =
        ap (λ ss. with_ones (own_places size (map (name_of a) ss)) es) (left-next count a i h)
        ∙ ones_after (places_of size (name_at a i)) (places_left size count a (i + 1)) es

    pub names-end : count ≤ i → with_ones (places_left size count a i) es ≡ es
    unfolding own_places with_ones
    names-end h = ap (λ ss. with_ones (own_places size (map (name_of a) ss)) es) (left_end count a i h)
