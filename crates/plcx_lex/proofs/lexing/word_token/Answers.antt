use Rattle.std.proofs.Common.{ℕ, List, refl, arith, subst}
use Rattle.std.proofs.lemmas.List.{length-take}
use Rattle.plcx_types.specs.Name.{is_next_byte}
use Rattle.plcx_lex.specs.Scan.{IsRun}
use Rattle.plcx_lex.specs.Terminal.{kind_of}
use Rattle.plcx_lex.proofs.TokenScan.{word_found, word_alone, word_typed}
use Rattle.plcx_lex.proofs.lexing.word_token.Goals as goal

pub slice_bounds-word_terminal-end : goal.slice_bounds-word_terminal-end
slice_bounds-word_terminal-end c =
    let run = subst (λ (t : List ℕ). IsRun is_next_byte t c.run_len-n.result) c.prefix.ensures c.run_len-n.ensures in
    omega (arith, run.within, length-take 128 c.args.text.now, length-take c.run_len-n.result c.args.text.now)

pub word_terminal-requires : goal.word_terminal-requires
word_terminal-requires c =
    let run = subst (λ (t : List ℕ). IsRun is_next_byte t c.run_len-n.result) c.prefix.ensures c.run_len-n.ensures in
    (word_found c.args.text.now c.run_len-n.result c.requires.some c.requires.first run).holds

pub typed_len-requires : goal.typed_len-requires
typed_len-requires c = subst (λ (t : List ℕ). IsRun is_next_byte t c.run_len-n.result) c.prefix.ensures c.run_len-n.ensures

pub returns-in-Some : goal.returns-in-Some
returns-in-Some c =
    let run = subst (λ (t : List ℕ). IsRun is_next_byte t c.run_len-n.result) c.prefix.ensures c.run_len-n.ensures in
    record {
      token = word_typed c.args.text.now c.run_len-n.result c.in-Some.long c.requires.first run (word_found c.args.text.now c.run_len-n.result c.requires.some c.requires.first run) c.in-Some.ensures;
      terminal = refl;
    }

pub returns-in-None : goal.returns-in-None
returns-in-None c =
    let run = subst (λ (t : List ℕ). IsRun is_next_byte t c.run_len-n.result) c.prefix.ensures c.run_len-n.ensures in
    let word = word_found c.args.text.now c.run_len-n.result c.requires.some c.requires.first run in
    let told = c.word_terminal.ensures in
    record { token = word_alone c.args.text.now c.run_len-n.result (kind_of c.word_terminal.result) c.requires.first word c.in-None.ensures told.token; terminal = told.terminal }
