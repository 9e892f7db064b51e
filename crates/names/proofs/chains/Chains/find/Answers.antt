-- The walk begins at the head of the name's bucket.
use mathlib.Core.Path.{◌≡◌, ap, ◌∙◌}
use lib.ListN.{get_or}
use Rattle.names.specs.Chains.{bucket_of, tag_of}
use Rattle.names.proofs.WalkLaws.{bucket-is, tag_is}
use Rattle.names.proofs.chains.Chains.find.Goals.{After-tag}
use Rattle.names.proofs.chains.Chains.find.Goals as goal

first : (c : After-tag) → c.from-first.result ≡ get_or c.args.self.now.heads (bucket_of c.args.name.now) 0
first c =
    c.from-first.ensures
    ∙ ap (λ b. get_or c.args.self.now.heads b 0)
    (bucket-is c.args.name.now c.args.hash c.bucket.result c.requires.hashed c.bucket.ensures)

tagged : (c : After-tag) → c.tag.result ≡ tag_of c.args.name.now
tagged c = tag_is c.args.name.now c.args.hash c.tag.result c.requires.hashed c.tag.ensures

pub walk-requires : goal.walk-requires
walk-requires c =
    let w = (goal.at.walk-requires c).After-tag in
    record {
      text_from_in_bounds = c.requires.text_from_in_bounds;
      walkable = rw (first w, tagged w) c.requires.walkable;
    }

pub returns : goal.returns
returns c = rw (← first (goal.at.returns c).After-tag) c.walk.ensures
