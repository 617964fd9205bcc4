-- A run of a text from its steps: the file of the text, and the run of its unit.
use Rattle.std.proofs.Common.{◌≡◌, ◌≤◌, ℕ, List, Option, subst, arith}
use Rattle.std.specs.Prelude.{Some, None}
use Rattle.std.proofs.Math.Path.{fun_ext}
use Rattle.plcx_io.specs.Counts.{Rose}
use Rattle.plcx_st.specs.declared.tree.Unit as tree
use Rattle.plcx_st.specs.Meant.{meant}
use Rattle.plcx_words.specs.Command.{Run}
use Rattle.plcx_state.specs.declared.layout.Leaf.{Leaf}
use Rattle.plcx_traced.specs.Files.{WhyNotBegun}
use Rattle.plcx_traced.specs.Runs as runs
use Rattle.plcx_traced.specs.declared.error.RunError.{RunError}
use Rattle.plcx_traced.specs.declared.error.RunError.TheVariants as run
use Rattle.plcx_traced.specs.Programs.{Programs}
use Rattle.plcx_execute.specs.Programs.{programs_of}
use Rattle.plcx_text_file.specs.Files.{IsTextFile}
use Rattle.plcx_text_run.specs.TextRuns.{TextOf, IsTraced, WhyNot, WhyNotRun}
use Rattle.plcx_text_run.specs.declared.running.TextRunError.{TextRunError}
use Rattle.plcx_text_run.specs.declared.running.TextRunError.TheVariants.{TextRead, TextBroken, NotRun, NoMemory}

-- a count that rose after another call rose over both
rose_later : (before between now : ℕ) → before ≤ between → Rose between now → Rose before now
rose_later before between now le h = omega arith

begun_wider : (told : List ℕ → Option (List ℕ)) (rose more : List ℕ → Type 0) → ((name : List ℕ) → rose name → more name) → (leaves : List Leaf) (retain : Option (List ℕ)) (e : RunError)
    → WhyNotBegun told rose leaves retain e → WhyNotBegun told more leaves retain e
begun_wider told rose more w leaves None e h = h
begun_wider told rose more w leaves (Some name) (run.NoProgram programs) h = h
begun_wider told rose more w leaves (Some name) run.RetainedRead h = w name h
begun_wider told rose more w leaves (Some name) (run.Line line) h = h
begun_wider told rose more w leaves (Some name) run.EventsRead h = h
begun_wider told rose more w leaves (Some name) (run.Row row) h = h
begun_wider told rose more w leaves (Some name) run.NoMemory h = h

-- why a run leaves no trace, where more may have failed
wider : {P G : Type 0} (ps : Programs P G) (told : List ℕ → Option (List ℕ)) (rose more : List ℕ → Type 0) → ((name : List ℕ) → rose name → more name) → (r : Run) (e : RunError)
    → runs.WhyNot told rose ps r e → runs.WhyNot told more ps r e
wider ps told rose more w r (run.NoProgram programs) h = h
wider ps told rose more w r run.RetainedRead (c, h) = (c, begun_wider told rose more w c.laid.leaves r.retain run.RetainedRead h)
wider ps told rose more w r (run.Line line) (c, h) = (c, begun_wider told rose more w c.laid.leaves r.retain (run.Line line) h)
wider ps told rose more w r run.EventsRead (b, h) = (b, w r.events h)
wider ps told rose more w r (run.Row row) h = h
wider ps told rose more w r run.NoMemory h = h

-- the desk tells the same files before and after the read of one
module _ (before after : List ℕ → Option (List ℕ)) (same : (name : List ℕ) → after name ≡ before name) (r : Run) (unit : tree.Unit) (file : IsTextFile (before r.file) unit) where
  abbrev of : TextOf before r
  of = record { unit = unit; file = file }

  -- the trace of the unit is that of the file
  pub traced : (text : List ℕ) → runs.IsTraced after (programs_of (meant unit)) r text → IsTraced before r text
  traced text h = record { of = of; traced = subst (λ (told : List ℕ → Option (List ℕ)). runs.IsTraced told (programs_of (meant unit)) r text) (fun_ext same) h }

  -- and so is what refuses its run
  pub refused : (had between now : List ℕ → ℕ) → ((name : List ℕ) → had name ≤ between name) → (e : TextRunError)
      → WhyNotRun after (λ name. Rose (between name) (now name)) (meant unit) r e → WhyNot before (λ name. Rose (had name) (now name)) r e
  refused had between now le TextRead h = absurd h
  refused had between now le (TextBroken b) h = absurd h
  refused had between now le (NotRun e) (h, ne) =
      let there = subst (λ (told : List ℕ → Option (List ℕ)). runs.WhyNot told (λ name. Rose (between name) (now name)) (programs_of (meant unit)) r e) (fun_ext same) h in
      (of, wider (programs_of (meant unit)) before (λ name. Rose (between name) (now name)) (λ name. Rose (had name) (now name)) (λ name x. rose_later (had name) (between name) (now name) (le name) x) r e there, ne)
  refused had between now le NoMemory h = h
