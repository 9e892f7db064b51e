-- What was found is what the lines have; a value that fits is written whole, from the first line of the name on.
use Prim.Native.Nat.{ℕ}
use mathlib.Core.Path.{◌≡◌, ap, ◌∙◌}
use mathlib.Core.Bool.{Bool, true, false, cond, not}
use mathlib.Core.List.{List}
use lib.ListN.{length}
use Rattle.std.proofs.Common.{Option, Result, Some, Ok}
use Rattle.answer.specs.declared.Refusal.{Refusal}
use Rattle.groups.specs.Lines.{lines_of}
use Rattle.fields.specs.Fields.{lines_ok, is_absent, value_for}
use Rattle.fields.specs.Step.{Found, found_in, found_by, lengths}
use Rattle.fields.specs.declared.Value.{Value}
use Rattle.fields.proofs.write_value.Goals as goal

-- a value that was found is that of the name
long : (name : List ℕ) (ls : List (List ℕ)) (r : Result (Option Value) Refusal) (v : Value) → r ≡ Ok (Some v)
    → found_by (lengths r) ≡ found_in name ls → v.length ≡ length (value_for name ls)
unfolding found_in
long name ls r v e h = go (lines_ok false ls) (rw e at h)
  where
    go : (t : Bool) → ◌≡◌ {A = Found} (record { good = true; there = true; length = v.length })
        (cond t (record { good = true; there = not (is_absent name ls); length = length (value_for name ls) })
        (record { good = false; there = false; length = 0 })) → v.length ≡ length (value_for name ls)
    go true k = ap (λ (f : Found). f.length) k
    go false k = let z : ◌≡◌ {A = Bool} true false = ap (λ (f : Found). f.good) k in cc

pub put_value-requires-clause-long_value : goal.put_value-requires-clause-long_value
put_value-requires-clause-long_value c =
    let x = c.args in
    long x.name.now (lines_of x.s.now) c.search.result c.in-Some.value (c.in_ok-value.was ∙ ap Ok c.in-Some.is)
    c.search.ensures.value
