use Rattle.std.proofs.Common.{◌∙◌, List, ap}
use Rattle.std.specs.List.{find}
use Rattle.plcx_rules.specs.Declarations.{Declaration}
use Rattle.plcx_names.specs.Seen.{shown_variable, is_declared}
use Rattle.plcx_names.proofs.Finding.{shown_at_place}
use Rattle.plcx_names.proofs.variables.Variables.find.Goals as goal

pub returns : goal.returns
returns c =
    let found = shown_at_place shown_variable (is_declared c.args.key.now) c.self.inside.all.items _ (c.copied-place.ensures ∙ c.get.ensures.value ∙ c.self.invariant c.args.key.now) in
    c.at.ensures ∙ (rw c.deref.ensures.value found ∙ ap (λ (ps : List Declaration). find (is_declared c.args.key.now) ps) c.self.view_is)
