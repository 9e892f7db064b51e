-- A hit's payload written (RULES 25.8).
use Rattle.std.specs.Prelude.{ℕ, cond, List, ◌∷◌, ◌++◌, leb, length}
use Rattle.laws.specs.Bytes.{little_bytes}
use Rattle.laws.specs.Parts.{over}
use Rattle.hits.specs.declared.writing.Responder.{Responder}
use Rattle.hits.specs.Results.{HitResult, result_bytes, results_bytes}
use Rattle.hits.specs.Reading.{head_size}

-- what stands before the results: their number, port, address and speed
unfoldable pub head_bytes : ℕ → Responder → List ℕ
head_bytes n from = n ∷ (little_bytes 2 from.port ++ (from.address ++ little_bytes 4 from.speed))

-- the whole payload: nothing stands between the last result and the mark
unfoldable pub hit_payload : Responder → List HitResult → List ℕ
hit_payload from rs = head_bytes (length rs) from ++ (results_bytes rs ++ from.mark)

-- an area with one of its parts written at its front; one that has no room for it stays as it is
unfoldable pub result_into : HitResult → List ℕ → List ℕ
result_into r area = cond (leb (length (result_bytes r)) (length area)) (over 0 (result_bytes r) area) area

unfoldable pub head_into : ℕ → Responder → List ℕ → List ℕ
head_into n from area = cond (leb head_size (length area)) (over 0 (head_bytes n from) area) area
