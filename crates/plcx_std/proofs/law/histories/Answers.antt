use Rattle.plcx_std.proofs.Edges.{r_trig_law, f_trig_law}
use Rattle.plcx_std.proofs.Latches.{sr_law, rs_law}
use Rattle.plcx_std.proofs.Counts.{ctu_law, ctu_output_law, ctd_law, ctd_output_law}
use Rattle.plcx_std.proofs.OnDelays.{ton_law}
use Rattle.plcx_std.proofs.OffDelays.{tof_law}
use Rattle.plcx_std.proofs.Pulses.{tp_law}
use Rattle.plcx_std.proofs.law.histories.Goals as goal

pub returns : goal.returns
returns c = record {
  r_trig = r_trig_law;
  f_trig = f_trig_law;
  sr = sr_law;
  rs = rs_law;
  ctu_count = ctu_law;
  ctu_output = ctu_output_law;
  ctd_count = ctd_law;
  ctd_output = ctd_output_law;
  ton = ton_law;
  tof = tof_law;
  tp = tp_law;
}
