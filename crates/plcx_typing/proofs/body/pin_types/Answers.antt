use Rattle.std.proofs.Common.{◌≡◌, ◌++◌, ◌∷◌, [], inl, inr, length, get_or, ◌∙◌, ap, arith}
use Rattle.std.proofs.lemmas.Bool.{cases_lt}
use Rattle.std.proofs.lemmas.List.{length_push, get_or_push, get_or_append_left}
use Rattle.plcx_types.specs.declared.ty.Ty.TheVariants.{Bool}
use Rattle.plcx_types.specs.TypeName.{all_types}
use Rattle.plcx_rules.specs.Types.{pin_at, sources_at}
use Rattle.plcx_typing.specs.Sheets.{sheet}
use Rattle.plcx_typing.specs.Tests.{pin_has}
use Rattle.plcx_typing.specs.Judgings.{first_type}
use Rattle.plcx_typing.proofs.body.pin_types.Goals as goal

pub loop-i-preserved : goal.loop-i-preserved
loop-i-preserved c =
    let s = sheet c.args.forms.now [] [] in
    let pins = sheet [] c.args.pins.now [] in
    let links = sheet [] [] c.args.links.now in
    let marks = c.args.marks.now in
    let old = c.loop-i.types.items in
    let t = c.pin_type_among.result in
    let i = c.loop-i.i in
    let was = c.loop-i.invariant in
    let pushed = c.in_ok-push.ensures.items in
    let here : t ≡ first_type (pin_has s marks (pin_at pins i) (sources_at links i)) all_types = c.pin_type_among.ensures ∙ ap (λ xs. first_type (pin_has s marks (pin_at pins i) xs) all_types) c.sources_at.ensures in
    record {
      count = omega (arith, ap length pushed, length_push old t, was.count);
      types = λ k h. ap (λ xs. get_or xs k Bool) pushed ∙ elim (cases_lt k i) as (λ w. get_or (old ++ t ∷ []) k Bool ≡ first_type (pin_has s marks (pin_at pins k) (sources_at links k)) all_types) [
        | inl low ↦ get_or_append_left old (t ∷ []) Bool k (omega (arith, was.count)) ∙ was.types k low
        | inr high ↦
            let same : i ≡ k = omega arith in
            get_or_push old t Bool k (was.count ∙ same) ∙ (here ∙ ap (λ n. first_type (pin_has s marks (pin_at pins n) (sources_at links n)) all_types) same)
      ];
    }
