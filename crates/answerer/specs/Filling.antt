-- Results laid one behind another into a part: which they are, and what is told of them. The contract of the function
-- that writes them cites this; no rule does.
use Rattle.std.specs.Prelude.{ℕ, ◌≤◌, ◌≡◌, Bool, false, List, length, get_or}
use Rattle.laws.specs.Numbers.{counting}
use Rattle.laws.specs.Parts.{over}
use Rattle.namearea.specs.Area.{count_in}
use Rattle.hits.specs.Results.{HitResult, results_bytes}
use Rattle.answering.specs.Writing.{result_at, picked_results, fitting, most_results}

-- the results for the places that are found, as many as fit so many bytes
unfoldable pub filling_of : List Bool → List ℕ → List ℕ → ℕ → List HitResult
filling_of found a sizes room =
    fitting most_results room (picked_results (λ i. get_or found i false) (result_at a sizes) (counting (count_in a) 0))

-- these results stand at the front of the part, and their number and that of their bytes are told
pub record Laid (rs : List HitResult) (results size : ℕ) (part after : List ℕ) : Type 0 where
  pub counted : results ≡ length rs
  pub long : size ≡ length (results_bytes rs)
  pub inside : size ≤ length part
  pub bytes : after ≡ over 0 (results_bytes rs) part
