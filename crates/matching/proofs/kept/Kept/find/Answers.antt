-- The search of the library, which compares by the order of keywords, told of the places of keywords.
use Rattle.std.proofs.Common.{refl, arith, rules}
use Rattle.std.proofs.lemmas.Fn.{always_returns_same}
use Rattle.matching.proofs.KeptLaws.{against, sought}
use Rattle.matching.proofs.kept.Kept.find.Goals as goal

pub returns : goal.returns
returns c =
    let s = c.args.self.now in
    let word = c.args.word.now in
    sought s.text.now s.spans s.count word s.rising _ refl (omega (arith, s.few, s.short)) _
    c.binary_search_by.ensures.bound
    (c.binary_search_by.ensures.position (against s.text.now word) (always_returns_same _ _ _ (λ a r f h. search rules)))
