use Rattle.std.proofs.Common.{List, ℕ, Option, ap, ◌∙◌, sym, length}
use Rattle.std.specs.List.{list_any, position_from}
use Rattle.std.specs.Option.{unwrap_or}
use Rattle.plcx_targets.specs.Labels.{is_labelled}
use Rattle.plcx_targets.proofs.Jumps.{target_is}
use Rattle.plcx_targets.proofs.targets.Targets.target.Goals as goal

pub returns-in-Some : goal.returns-in-Some
returns-in-Some c =
    let networks = c.args.self.now in
    let found = sym c.in-Some.is ∙ c.labelled.ensures ∙ ap (λ (key : List ℕ). position_from (list_any (is_labelled key)) 0 networks) (c.as_slice.ensures.value ∙ c.in_ok-key.ensures) in
    ap (λ (o : Option ℕ). unwrap_or o (length networks)) found ∙ target_is c.args.label.now networks

pub returns : goal.returns
returns c =
    let networks = c.args.self.now in
    let found = sym c.in-None.is ∙ c.labelled.ensures ∙ ap (λ (key : List ℕ). position_from (list_any (is_labelled key)) 0 networks) (c.as_slice.ensures.value ∙ c.in_ok-key.ensures) in
    c.end.ensures ∙ ap (λ (o : Option ℕ). unwrap_or o (length networks)) found ∙ target_is c.args.label.now networks
