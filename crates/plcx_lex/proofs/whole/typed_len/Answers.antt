use Rattle.std.proofs.Common.{◌+◌, ℕ, List, arith, sym, ◌∙◌, subst}
use Rattle.std.proofs.lemmas.List.{length-take}
use Rattle.plcx_types.specs.Name.{in_lower_case}
use Rattle.plcx_lex.specs.Scan.{LongestOf, NoneOf, Number}
use Rattle.plcx_lex.proofs.TypedScan.{rest_all, typed_found, typed_unfound, typed_unnamed, typed_unmarked}
use Rattle.plcx_lex.proofs.whole.typed_len.Goals.{then-n-text-via-then-n-text, then-n-text-via-else-n-text+then-text-n-ne35}
use Rattle.plcx_lex.proofs.whole.typed_len.Goals as goal

pub bounds-text-n : goal.bounds-text-n
bounds-text-n c = omega (arith, c.requires.within, length-take 128 c.args.text.now, c.if-n-text.false)

pub returns-then-n-text : goal.returns-then-n-text
returns-then-n-text c = elim c.then-n-text.branch [
  | then-n-text-via-then-n-text w ↦
      typed_unmarked c.args.text.now c.args.n c.requires (λ lt is. let end = w.if-n-text.true in omega arith)
  | then-n-text-via-else-n-text+then-text-n-ne35 w ↦
      typed_unmarked c.args.text.now c.args.n c.requires (λ lt is. w.if-text-n-ne35.true is)
]

pub returns-in-None : goal.returns-in-None
returns-in-None c = typed_unnamed c.args.text.now c.args.n c.requires (sym c.named.ensures ∙ c.in-None.is)

pub returns-in-None-number_len : goal.returns-in-None-number_len
returns-in-None-number_len c =
    typed_unfound c.args.text.now c.args.n c.in-Some.ty c.requires (sym c.named.ensures ∙ c.in-Some.is)
    (subst (λ (t : List ℕ). NoneOf (Number c.in-Some.ty) (in_lower_case t)) (rest_all c.args.text.now (c.args.n + 1)) c.in-None-number_len.ensures)

pub returns-in-Some-number_len : goal.returns-in-Some-number_len
returns-in-Some-number_len c =
    typed_found c.args.text.now c.args.n c.in-Some-number_len.long c.in-Some.ty c.requires (omega (arith, c.requires.within, length-take 128 c.args.text.now, c.if-n-text.false)) c.if-text-n-ne35.false (sym c.named.ensures ∙ c.in-Some.is)
    (subst (λ (t : List ℕ). LongestOf (Number c.in-Some.ty) (in_lower_case t) c.in-Some-number_len.long) (rest_all c.args.text.now (c.args.n + 1)) c.in-Some-number_len.ensures)
