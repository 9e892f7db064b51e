-- The results of a query hit (RULES 25.2): each as bytes, and read off bytes.
use Rattle.std.specs.Prelude.{ℕ, ◌+◌, Bool, ◌&&◌, List, [], ◌∷◌, ◌++◌, eqb, length, take, drop}
use Rattle.laws.specs.Bytes.{little, little_bytes}
use Rattle.laws.specs.Tests.{any}
use Rattle.laws.specs.Text.{until_zero}

-- a result: which file, its size, its name, and what is told of it besides
pub record HitResult : Type 0 where
  pub index : ℕ
  pub size : ℕ
  pub name : List ℕ
  pub extension : List ℕ

abbrev pub without_extension : ℕ → ℕ → List ℕ → HitResult
without_extension index size name = record { index = index; size = size; name = name; extension = [] }

-- index and size, 4 bytes each, then name and extension, each ended by a zero byte
unfoldable pub result_bytes : HitResult → List ℕ
result_bytes r =
    little_bytes 4 r.index
    ++ (little_bytes 4 r.size ++ (r.name ++ (0 ∷ (r.extension ++ (0 ∷ [])))))

-- results one behind another
unfoldable pub results_bytes : List HitResult → List ℕ
results_bytes [] = []
results_bytes (r ∷ rs) = result_bytes r ++ results_bytes rs

-- ---- read off some bytes

-- the name, what stands behind the zero byte that ends it, and the extension
abbrev pub name_in : List ℕ → List ℕ
name_in d = until_zero (drop 8 d)

abbrev pub behind_name : List ℕ → List ℕ
behind_name d = drop (9 + length (name_in d)) d

abbrev pub extension_in : List ℕ → List ℕ
extension_in d = until_zero (behind_name d)

-- both zero bytes are there
unfoldable pub is_whole : List ℕ → Bool
is_whole d = any (eqb 0) (drop 8 d) && any (eqb 0) (behind_name d)

-- the result that the bytes begin with, and how many of them it has
abbrev pub result_in : List ℕ → HitResult
result_in d =
    record {
      index = little (take 4 d);
      size = little (take 4 (drop 4 d));
      name = name_in d;
      extension = extension_in d;
    }

abbrev pub result_size : List ℕ → ℕ
result_size d = 10 + (length (name_in d) + length (extension_in d))
