use Rattle.std.proofs.Common.{ap}
use Rattle.plcx_words.specs.Says.{said_by}
use Rattle.plcx_command.proofs.deciding.obey.Goals as goal

pub returns-in-Check-clause-says : goal.returns-in-Check-clause-says
returns-in-Check-clause-says g c = rw c.in-Check.is c.check_file.ensures

pub returns-in-Compile-clause-says : goal.returns-in-Compile-clause-says
returns-in-Compile-clause-says g c = rw c.in-Compile.is c.compile_file.ensures

pub returns-in-Simulate-clause-says : goal.returns-in-Simulate-clause-says
returns-in-Simulate-clause-says g c = rw c.in-Simulate.is c.simulate_file.ensures.says

pub returns-in-Run-clause-says : goal.returns-in-Run-clause-says
returns-in-Run-clause-says g c = rw c.in-Run.is c.run_text.ensures

pub returns-in-Cycle-clause-says : goal.returns-in-Cycle-clause-says
returns-in-Cycle-clause-says g c = rw c.in-Cycle.is c.cycle_file.ensures

pub returns-in-Migrate-clause-says : goal.returns-in-Migrate-clause-says
returns-in-Migrate-clause-says g c = rw c.in-Migrate.is c.migrate_file.ensures

pub returns-in-Report-clause-says : goal.returns-in-Report-clause-says
returns-in-Report-clause-says g c = rw c.in-Report.is c.migrate_file-in-Report.ensures

pub returns-in-Cover-clause-says : goal.returns-in-Cover-clause-says
returns-in-Cover-clause-says g c = rw c.in-Cover.is c.cover_file.ensures

pub bench_reply-requires : goal.bench_reply-requires
bench_reply-requires g c = c.requires c.in-Bench.n (ap said_by c.in-Bench.is)
