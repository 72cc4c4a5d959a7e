use Rattle.std.proofs.Common.{arith}
use Rattle.rules.specs.TraceText.{header}
use Rattle.run_text.proofs.Lines.{put_first}
use Rattle.run_text.proofs.put_header.Goals as goal

pub returns : goal.returns
unfolding header
returns c = put_first c.put_bytes.ensures (omega (arith, c.put_bytes.ensures.place))
