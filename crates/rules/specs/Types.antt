-- The types that the code declares, with their variants, each by its own name: what `src/` says of them is not said again.
pub use Rattle.rules.specs.Verdicts.{Verdict, Accepted, Refused, Outcome, Stepped, StepRefused}
pub use Rattle.rules.specs.declared.answer.Refusal.{Refusal}
pub use Rattle.rules.specs.declared.answer.Report.{Report}
pub use Rattle.rules.specs.declared.site.Detector.{Detector}
pub use Rattle.rules.specs.declared.site.Edition.{Edition}
pub use Rattle.rules.specs.declared.site.Edition.TheVariants.{One, Two}
pub use Rattle.rules.specs.declared.site.Group.{Group}
pub use Rattle.rules.specs.declared.site.PhaseTimes.{PhaseTimes}
pub use Rattle.rules.specs.declared.site.Range.{Range}
pub use Rattle.rules.specs.declared.site.Site.{Site}
pub use Rattle.rules.specs.declared.site.Size.{Size}
pub use Rattle.rules.specs.declared.site.Times.{Times}
pub use Rattle.rules.specs.declared.site.WalkTimes.{WalkTimes}
pub use Rattle.rules.specs.declared.state.Counts.{Counts}
pub use Rattle.rules.specs.declared.state.Demands.{Demands}
pub use Rattle.rules.specs.declared.state.Interval.{Interval}
pub use Rattle.rules.specs.declared.state.Interval.TheVariants.{StartRed, LateStart, MinimumGreen, Running, EarlyCutOff, Yellow, AllRed}
pub use Rattle.rules.specs.declared.state.IntervalRow.{IntervalRow}
pub use Rattle.rules.specs.declared.state.KeptState.{KeptState}
pub use Rattle.rules.specs.declared.state.Movement.{Movement}
pub use Rattle.rules.specs.declared.state.Position.{Position}
pub use Rattle.rules.specs.declared.state.Stage.{Stage}
pub use Rattle.rules.specs.declared.state.Stage.TheVariants.{Idle, Walk, ClearanceOne, ClearanceTwo}
pub use Rattle.rules.specs.declared.state.StageRow.{StageRow}
pub use Rattle.rules.specs.declared.state.State.{State}
