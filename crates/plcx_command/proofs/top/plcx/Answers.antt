use Rattle.plcx_command.specs.Simulated.{Trace, Coverage}
use Rattle.plcx_command.specs.declared.status.Refused.TheVariants.{EventsBroken, NoProgram, TasksBroken, TextBroken}
use Rattle.plcx_command.proofs.Benches.{benches_exactly}
use Rattle.plcx_command.proofs.Causes.{all_project, files_settle, is_complete, program_settles, refuses_broken, refuses_for, tasks_settle, text_settles}
use Rattle.plcx_command.proofs.Cycles.{OneTree, cycles_exactly}
use Rattle.plcx_command.proofs.Forms.{one_run, missing_run}
use Rattle.plcx_command.proofs.Laws.{blames_reads, blames_writes, checks_exactly, compiles_exactly, refuses_usage, tells_memory, watches_exactly}
use Rattle.plcx_command.proofs.Migrations.{migrates_exactly}
use Rattle.plcx_command.proofs.Simulations.{exactly}
use Rattle.plcx_command.proofs.TextRuns.{runs_exactly}
use Rattle.plcx_command.proofs.top.plcx.Goals as goal

pub returns : goal.returns
returns g c =
    let one = c.one_verdict.ensures in
    let list = c.one_list_of_diagrams.ensures in
    let outcome = one_run c.one_outcome.ensures.one c.one_coverage.ensures.one in
    let missing = missing_run c.one_outcome.ensures.missing c.one_coverage.ensures.missing in
    let texts = c.one_outcome-2.ensures in
    let tree : OneTree = λ bytes a b x y. c.one_tree.ensures bytes a b x.stands y.stands in
    let cycle = c.one_cycle.ensures in
    let none = c.no_plan.ensures in
    let ends = c.run.ensures.ends in
    record {
      ends = ends;
      compiles = compiles_exactly one _ _ _ _ _ _ _ ends;
      checks = checks_exactly one _ _ _ _ _ _ _ ends;
      simulates = exactly one list outcome missing _ _ _ Trace _ _ _ _ ends;
      covers = exactly one list outcome missing _ _ _ Coverage _ _ _ _ ends;
      runs = runs_exactly one _ _ _ texts.one _ _ _ _ ends;
      cycles = λ t. cycles_exactly one _ _ _ t tree list cycle _ _ _ _ ends;
      benches = benches_exactly _ _ _ _ _ _ _ ends;
      migrates = migrates_exactly one list _ _ _ _ _ _ _ ends;
      complete = is_complete one list outcome missing texts.one texts.broken texts.missing tree cycle none _ _ _ _ _ _ _ ends;
      watches = watches_exactly one _ _ _ _ _ _ _ ends;
      usage = refuses_usage one _ _ _ _ _ _ _ ends;
      untouched = c.run.ensures.untouched;
      broken = refuses_broken one list outcome missing texts.one texts.broken texts.missing tree cycle none _ _ _ _ _ _ _ ends;
      text_broken =
          refuses_for one list outcome missing texts.one texts.broken texts.missing tree cycle none _ _ _ TextBroken _ tt (λ x. cc) (λ x. cc) _ (λ k. k) (text_settles one list outcome missing texts.one texts.broken texts.missing tree cycle none _ _ _ _) _ _ _ ends;
      tasks_broken =
          refuses_for one list outcome missing texts.one texts.broken texts.missing tree cycle none _ _ _ TasksBroken _ tt (λ x. cc) (λ x. cc) _ (λ k. k) (tasks_settle one list outcome missing texts.one texts.broken texts.missing tree cycle none _ _ _ _) _ _ _ ends;
      no_program =
          refuses_for one list outcome missing texts.one texts.broken texts.missing tree cycle none _ _ _ NoProgram _ tt (λ x. cc) (λ x. cc) _ (λ k. k) (program_settles one list outcome missing texts.one texts.broken texts.missing tree cycle none _ _ _ _) _ _ _ ends;
      events_broken =
          refuses_for one list outcome missing texts.one texts.broken texts.missing tree cycle none _ _ _ EventsBroken _ tt (λ x. cc) (λ x. cc) _ (all_project _ _) (files_settle one list outcome missing texts.one texts.broken texts.missing tree cycle none _ _ _ _) _ _ _ ends;
      read_fault = blames_reads one _ _ _ _ _ _ _ ends;
      write_fault = blames_writes one _ _ _ _ _ _ _ ends;
      no_memory = tells_memory one _ _ _ _ _ _ _ ends;
    }
