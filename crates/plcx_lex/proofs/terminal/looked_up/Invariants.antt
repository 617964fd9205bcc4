use Rattle.std.proofs.Common.{◌≡◌, drop, map}
use Rattle.plcx_lex.specs.Scan.{told}
use Rattle.plcx_lex.proofs.terminal.looked_up.Given as goal

-- no entry so far is the word
abbrev pub invariant-loop-entry : goal.invariant-loop-entry
invariant-loop-entry l = told (map (λ e. (e.0.now, e.1)) (drop l.entry-index l.table)) l.word ≡ told (map (λ e. (e.0.now, e.1)) l.table) l.word
