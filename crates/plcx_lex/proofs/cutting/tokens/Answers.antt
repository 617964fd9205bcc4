use Rattle.std.proofs.Common.{◌++◌, ◌∷◌, [], ℕ, List, take, drop, ◌≡◌, arith, sym, subst}
use Rattle.std.proofs.lemmas.List.{length-drop}
use Rattle.plcx_lex.specs.Lexis.{Piece, IsPiece}
use Rattle.std.specs.Option.{option_map}
use Rattle.std.specs.Prelude.{IfSome}
use Rattle.plcx_lex.specs.Scan.{NoPiece}
use Rattle.plcx_lex.specs.Terminal.{terminal_of, kind_of}
use Rattle.plcx_lex.proofs.PieceLaws.{piece_positive}
use Rattle.plcx_lex.proofs.MadeLaws.{rest_all, lex_place, more_covered, more_total, kept_tokens, kept_told}
use Rattle.plcx_lex.proofs.cutting.tokens.Goals as goal

pub returns-in_default-clause-tokens : goal.returns-in_default-clause-tokens
returns-in_default-clause-tokens c =
    let made = c.loop-at.invariant.made in
    let none : NoPiece (drop c.loop-at.at c.args.bytes.now) = subst NoPiece (rest_all c.args.bytes.now c.loop-at.at) c.in_default.ensures in
    lex_place c.args.bytes.now c.loop-at.at made.0 c.loop-at-test.true made.1 made.2 none

pub loop-at-smaller : goal.loop-at-smaller
loop-at-smaller c =
    let positive = piece_positive _ (option_map kind_of c.in-Some.terminal) c.in-Some.n c.in-Some.ensures.piece in
    omega (arith, positive.0)

pub loop-at-preserved : goal.loop-at-preserved
loop-at-preserved c =
    let made = c.loop-at.invariant.made in
    let bytes = c.args.bytes.now in
    let next : Piece = (option_map kind_of c.in-Some.terminal, c.in-Some.n) in
    let piece : IsPiece (drop c.loop-at.at bytes) next.0 next.1 = subst (λ (rest : List ℕ). IsPiece rest next.0 next.1) (rest_all bytes c.loop-at.at) c.in-Some.ensures.piece in
    let positive = piece_positive (drop c.loop-at.at bytes) next.0 next.1 piece in
    record {
      within = omega (arith, positive.1, length-drop c.loop-at.at bytes);
      made = (
        made.0 ++ next ∷ [],
        more_covered bytes made.0 next made.1 (subst (λ (i : ℕ). IsPiece (drop i bytes) next.0 next.1) (sym made.2) piece),
        omega (arith, more_total made.0 next, made.2),
        kept_tokens bytes c.loop-at.out.items c.keep.new.out.items made.0 c.in-Some.terminal c.loop-at.at c.in-Some.n made.2 made.3 c.in_ok-keep.ensures,
      );
      told =
          kept_told bytes c.loop-at.out.items c.keep.new.out.items c.in-Some.terminal c.loop-at.at c.in-Some.n c.loop-at.invariant.told c.in_ok-keep.ensures
          (subst (λ (rest : List ℕ). IfSome c.in-Some.terminal (λ t. t ≡ terminal_of (kind_of t) (take c.in-Some.n rest))) (rest_all bytes c.loop-at.at) c.in-Some.ensures.terminal);
    }
