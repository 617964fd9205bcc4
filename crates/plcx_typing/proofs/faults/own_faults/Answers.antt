use Rattle.std.proofs.Common.{◌≡◌, ◌++◌, ◌∷◌, [], inl, inr, false, length, ◌∙◌, ap, arith}
use Rattle.std.proofs.lemmas.Bool.{cases_lt}
use Rattle.std.proofs.lemmas.List.{length_push, get_or_push, get_or_append_left, get_or_read}
use Rattle.plcx_rules.specs.Types.{no_form, form_at}
use Rattle.plcx_typing.specs.Sheets.{sheet}
use Rattle.plcx_typing.specs.Faults.{flag, element_breaks}
use Rattle.plcx_typing.proofs.faults.own_faults.Goals as goal

pub loop-element-preserved : goal.loop-element-preserved
loop-element-preserved c =
    let s = sheet c.args.forms.now [] [] in
    let old = c.loop-element.flags.items in
    let b = c.element_breaks.result in
    let e = c.loop-element.element in
    let was = c.loop-element.invariant in
    let pushed = c.in_ok-push.ensures.items in
    let form = c.index-forms-element.result in
    let at : form ≡ form_at s e = get_or_read c.args.forms.now e form c.loop-element-test.true c.index-forms-element.is no_form in
    record {
      count = omega (arith, ap length pushed, length_push old b, was.count);
      flags = λ x h. ap (λ xs. flag xs x) pushed ∙ elim (cases_lt x e) as (λ w. flag (old ++ b ∷ []) x ≡ element_breaks c.args.rule c.args.marks.now x (form_at s x)) [
        | inl low ↦ get_or_append_left old (b ∷ []) false x (omega (arith, was.count)) ∙ was.flags x low
        | inr high ↦
            let same : e ≡ x = omega arith in
            get_or_push old b false x (was.count ∙ same) ∙ (c.element_breaks.ensures ∙ (ap (element_breaks c.args.rule c.args.marks.now e) at ∙ ap (λ y. element_breaks c.args.rule c.args.marks.now y (form_at s y)) same))
      ];
    }
