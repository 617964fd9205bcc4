use Rattle.std.proofs.Common.{List, ap, ◌∙◌, take}
use Rattle.std.specs.List.{list_any}
use Rattle.plcx_conditions.specs.Known.{same_name}
use Rattle.plcx_known.specs.Owned.{Typed, name_of}
use Rattle.plcx_known.proofs.Owners.{before_is}
use Rattle.plcx_known.proofs.owner.Owner.has_before.Goals as goal

pub returns : goal.returns
returns c =
    c.in_ok-has_before.ensures ∙ before_is c.self.inside.all.items c.self.inside.names c.args.name.now c.args.place c.self.invariant.0
    ∙ ap (λ (ts : List Typed). list_any (λ (t : Typed). same_name (name_of t) c.args.name.now) (take c.args.place ts)) c.self.view_is
