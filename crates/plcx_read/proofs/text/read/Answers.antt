use Rattle.std.proofs.Common.{List, length, map, ap, sym, subst, ◌∙◌, refl}
use Rattle.std.proofs.lemmas.Result.{err_from_is_err_and}
use Rattle.plcx_lex.specs.Lexis.{AreTextTokens, spelt}
use Rattle.plcx_lex.specs.declared.token.TextToken.{TextToken}
use Rattle.plcx_read.proofs.WholeText.{reads, read_only, error_only, error_fails, found}
use Rattle.plcx_read.proofs.text.read.Goals as goal

pub returns-clause-found : goal.returns-clause-found
returns-clause-found c =
    let bytes = c.args.bytes.now in
    let same = c.new-lexemes.ensures ∙ ap (λ (l : List TextToken). map (spelt bytes) l) c.deref.ensures.value in
    found bytes c.new-lexemes.result c.in_ok-pous.pous (subst (AreTextTokens bytes) (sym same) c.in_ok-tokens.ensures.tokens) c.in_ok-pous.ensures

pub returns-clause-only : goal.returns-clause-only
returns-clause-only c = λ u d le stands.
    let bytes = c.args.bytes.now in
    let same = c.new-lexemes.ensures ∙ ap (λ (l : List TextToken). map (spelt bytes) l) c.deref.ensures.value in
    let made = subst (AreTextTokens bytes) (sym same) c.in_ok-tokens.ensures.tokens in
    read_only c.new-lexemes.result c.in_ok-pous.pous u c.in_ok-pous.ensures (reads bytes c.new-lexemes.result u d made le stands)

pub returns-in_err-pous-clause-only : goal.returns-in_err-pous-clause-only
returns-in_err-pous-clause-only c = λ u d le stands.
    let bytes = c.args.bytes.now in
    let same = c.new-lexemes.ensures ∙ ap (λ (l : List TextToken). map (spelt bytes) l) c.deref.ensures.value in
    let made = subst (AreTextTokens bytes) (sym same) c.in_ok-tokens.ensures.tokens in
    let p = err_from_is_err_and c.from_residual-in_err-pous.result c.from_residual-in_err-pous.ensures.1 in
    rw (p.1, p.2) (error_only c.new-lexemes.result c.new-lexemes.result (length bytes) c.in_err-pous.field-0.0 u refl c.in_err-pous.ensures (reads bytes c.new-lexemes.result u d made le stands))

pub returns-in_err-pous-clause-fails : goal.returns-in_err-pous-clause-fails
returns-in_err-pous-clause-fails c =
    let bytes = c.args.bytes.now in
    let same = c.new-lexemes.ensures ∙ ap (λ (l : List TextToken). map (spelt bytes) l) c.deref.ensures.value in
    let made = subst (AreTextTokens bytes) (sym same) c.in_ok-tokens.ensures.tokens in
    let p = err_from_is_err_and c.from_residual-in_err-pous.result c.from_residual-in_err-pous.ensures.1 in
    rw (p.1, p.2) (error_fails bytes c.new-lexemes.result c.in_err-pous.field-0.0 made c.in_err-pous.ensures)
