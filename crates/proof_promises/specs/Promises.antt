-- All promises that are theorems, one field for each: its type is the statement. The order and the groups are those of the README's table; docs/promises.py
-- holds the two to each other.
use Rattle.rules.specs.AnswerCases.{AnswersHold}
use Rattle.rules.specs.CallCases.{CallsHold}
use Rattle.rules.specs.DemandThree.{DemandThree, RunsHaveNoConflictingGreens, RunsHaveFullClearances, RunsMeetDemands, RunsHaveNoDeadEnd}
use Rattle.rules.specs.Lamps.{RunsServeLamps}
use Rattle.rules.specs.Laws.{PhasesCanBeCalled, AcceptedIsShort, WaitIsInTable, TableIsUsable, AcceptedIsSound, EditionIsNamed, AcceptedIsInTable, PassedBytes, PassEndsInColours}
use Rattle.rules.specs.LimitCases.{LimitsHold}
use Rattle.rules.specs.OnceEach.{RunsStartOnceEach, RunsStartOthersOnce, RunsStartFewOthers}
use Rattle.rules.specs.PhaseWaits.{EveryWaitMet, EveryPlainWaitMet, WaitsWithinBound, EveryWaitWithinSum, PhaseIsTold}
use Rattle.rules.specs.ReadingCases.{ReadingsHold}
use Rattle.rules.specs.Scanning.{KeptIsScan, RunForgets}
use Rattle.rules.specs.StateCases.{StatesHold}
use Rattle.rules.specs.StepCases.{StepsHold}
use Rattle.rules.specs.StepDemandThree.{StepDemandThree, StepDemandFollows}
use Rattle.rules.specs.TimedCases.{TimedCallsHold}
use Rattle.rules.specs.TimedLaws.{TakesOverAtStart, ChangeIsStep, ReadyIsValid, OtherwisePlain, AcceptedIsAdmitted, AdmittedIsAccepted, DiffersExactly, RetimedIsAdmitted, FreshIsValid, StepKeepsValid, RetimeKeepsValid, StepForgets, RefusalIsWritten, RetimeRefusalIsWritten}
use Rattle.proof_acceptance.specs.Largest.{GreatestIsReached}
use Rattle.proof_guarantees.specs.Junction.{NeverTogether, MetIn270, AlwaysAnswered}
use Rattle.proof_refutations.specs.Dark.{RedMeetsDemandThree, RedFails, LampsFail}
use Rattle.proof_refutations.specs.Refutations.{Refutations, StepRefutations, RulesAtOnceFails, StartsTwice, SettingBackFails, SmallBoundFails, WaitsBroken}
use Rattle.proof_cases.specs.Cases.{CasesHold}
use Rattle.proof_cases.specs.TimedCases.{TimedRunsHold}
use Rattle.proof_wait_cases.specs.WaitCases.{ExampleWaits, WaitsReached}
use Rattle.base_crc.specs.CrcCases.{NoBytes, NineDigits, FourZeros, FourOnes, ThirtyThreeBits}
use Rattle.base_crc.specs.CrcLaws.{CrcIsSmall, BytesAreBits, BurstIsFound, ClosedBurstIsFound}
use Rattle.run_text.specs.TraceCases.{TracesHold}
use Rattle.state_bytes.specs.StateCases.{FreshBytes, LeavingBytes}
use Rattle.state_timed.specs.TimedRoundTrips.{EncodedHas336, EncodedIsTimed, EncodedIsBytes, DecodedEncoded, DecodedIsProper, EncodedDecoded, StartRedLongerBytes}
use Rattle.state_sealed.specs.SealedLaws.{SealedHolds, SealedIsBytes, DamageIsFound, OtherLengthIsFound, OtherBytesAreFound}
use Rattle.panel_text.specs.Lines.{LineReadsBack, NeverAlike, NeverEmpty, NoLeadingZero}
use Rattle.sheet_settings.specs.Sheet.{AsStated as SheetAsStated, Admitted as SheetAdmitted}
use Rattle.sheet_settings.specs.SheetCases.{CasesHold as SheetCasesHold}
use Rattle.proof_road.specs.RoadCases.{RoadCasesHold}
use Rattle.proof_road.specs.Roads.{JoinsOnReaching, ArrivalsAreCounted, VehiclesAreCounted, ResultsAreCounted, NoStepRefused, RoadIsValid, RoadIsRun, RoadIsSafe, RoadRefusalIsWritten}
use Rattle.sheet_yellow.specs.Yellow.{AsStated as YellowAsStated}
use Rattle.sheet_yellow.specs.YellowCases.{CasesHold as YellowCasesHold}
use Rattle.sheet_yellow.specs.YellowLaws.{NeverFallsWithSpeed, NeverRisesWithGrade, Admitted as YellowAdmitted}
use Rattle.cabinet_records.specs.CabinetCases.{CabinetCasesHold}
use Rattle.cabinet_records.specs.CabinetLaws.{OthersStay, OutputsStay, RefusalLeaves as CabinetRefusalLeaves}
use Rattle.proof_panel.specs.PanelLaws.{FoundNoneMeans, StepIsExplained, ToldExactly, OnlyCallsCount, LongestLine, LongestRoomIsEnough, LengthRefusalIsWritten, WhyRefusalIsWritten}
use Rattle.proof_panel.specs.WhyCases.{WhyCasesHold}
use Rattle.proof_board.specs.BoardRuns.{FreshAccepts, BoardRunsAlike, BoardRunsHold, BoardDemandThree, BoardStepDemandThree, BoardOnceEach, BoardWaitsMet, BoardPlainWaitsMet, BoardLampsServed}
use Rattle.proof_board.specs.ProperStates.{FreshTimedIsProper, TimedStepIsProper, RetimeIsProper}
use Rattle.proof_state_times.specs.StateTimes.{StateWouldBeAccepted, StateExactly}
use Rattle.proof_cabinet.specs.CabinetAnswers.{AnswerIsWritten, RetimingAnswerIsWritten, SteppingAnswers, RetimingAnswers, ShapeStays}
use Rattle.proof_cabinet.specs.CabinetRuns.{CabinetOnceEach, CabinetWaitsMet, CabinetLampsServed, CabinetRuns, CabinetRunsHold, CabinetDemandThree, PlacedHolds, PlacedApart, PlacedShows}
use Rattle.proof_cabinet.specs.Operations.{RetimingOthersStay, RetimingRefusalLeaves}
use Rattle.proof_seal.specs.SealAnswers.{SealRefusalIsWritten, ResumeRefusalIsWritten, RefusalLeaves as SealRefusalLeaves}
use Rattle.proof_seal.specs.SealCases.{JunctionStarts, JunctionIsSealed, CasesHold as SealCasesHold}
use Rattle.proof_seal.specs.SealLaws.{ResumeGivesBack, ResumedIsValid, DamageIsRefused, FourBytesAreRefused, OneByteIsRefused, OtherLengthIsRefused, OtherPersonalityIsRefused, OtherByteIsRefused, LongerOrShorterIsRefused}
use Rattle.proof_seal.specs.SealedRuns.{RunsCanBeSealed, SealedRunsGoOn}
use Rattle.proof_trace.specs.TraceRuns.{TraceIsPrinted}

pub record Promises : Type 1 where
  -- demands 1 to 3 over the bytes that C and Rust hold
  pub fresh_accepts : FreshAccepts
  pub board_runs_alike : BoardRunsAlike
  pub board_runs_hold : BoardRunsHold
  pub board_demand_three : BoardDemandThree
  pub board_step_demand_three : BoardStepDemandThree
  -- demand 3: every run of steps and new times is safe and serves everybody
  pub demand_three : DemandThree
  -- 3a: conflicting groups never show green together
  pub runs_have_no_conflicting_greens : RunsHaveNoConflictingGreens
  -- 3b: no green before the full clearance of every conflicting group
  pub runs_have_full_clearances : RunsHaveFullClearances
  -- 3c: every locked and every button demand is met within the wait bound
  pub runs_meet_demands : RunsMeetDemands
  -- 3d: a call of a run is refused only for what it hands over itself
  pub runs_have_no_dead_end : RunsHaveNoDeadEnd
  -- while a demand waits, no phase starts twice
  pub runs_start_once_each : RunsStartOnceEach
  pub runs_start_others_once : RunsStartOthersOnce
  pub runs_start_few_others : RunsStartFewOthers
  pub board_once_each : BoardOnceEach
  pub cabinet_once_each : CabinetOnceEach
  -- a wait for every approach and every crossing
  pub every_wait_met : EveryWaitMet
  pub every_plain_wait_met : EveryPlainWaitMet
  pub board_waits_met : BoardWaitsMet
  pub board_plain_waits_met : BoardPlainWaitsMet
  pub cabinet_waits_met : CabinetWaitsMet
  -- lamps are served
  pub runs_serve_lamps : RunsServeLamps
  pub board_lamps_served : BoardLampsServed
  pub cabinet_lamps_served : CabinetLampsServed
  -- these waits and the wait bound
  pub waits_within_bound : WaitsWithinBound
  pub every_wait_within_sum : EveryWaitWithinSum
  pub phase_is_told : PhaseIsTold
  pub example_waits : ExampleWaits
  pub waits_reached : WaitsReached
  -- demand 3 for lists of step calls alone
  pub step_demand_three : StepDemandThree
  pub step_demand_follows : StepDemandFollows
  -- demand 3 at the junction of two phases
  pub never_together : NeverTogether
  pub met_in270 : MetIn270
  pub always_answered : AlwaysAnswered
  -- new times rule from the next start of a phase on
  pub takes_over_at_start : TakesOverAtStart
  pub change_is_step : ChangeIsStep
  pub ready_is_valid : ReadyIsValid
  pub otherwise_plain : OtherwisePlain
  -- the times that a site may have
  pub accepted_is_admitted : AcceptedIsAdmitted
  pub admitted_is_accepted : AdmittedIsAccepted
  pub differs_exactly : DiffersExactly
  pub retimed_is_admitted : RetimedIsAdmitted
  -- bytes are a state of a personality only if the personality would be accepted with the ruling times in them, and with the waiting ones
  pub state_would_be_accepted : StateWouldBeAccepted
  pub state_exactly : StateExactly
  -- wrong controllers
  pub refutations : Refutations
  pub step_refutations : StepRefutations
  pub rules_at_once_fails : RulesAtOnceFails
  pub starts_twice : StartsTwice
  pub setting_back_fails : SettingBackFails
  pub small_bound_fails : SmallBoundFails
  pub waits_broken : WaitsBroken
  -- lamps are needed beside demand 3
  pub red_meets_demand_three : RedMeetsDemandThree
  pub red_fails : RedFails
  pub lamps_fail : LampsFail
  -- valid states stay valid, and fit the types of the machine
  pub fresh_is_valid : FreshIsValid
  pub step_keeps_valid : StepKeepsValid
  pub retime_keeps_valid : RetimeKeepsValid
  pub fresh_timed_is_proper : FreshTimedIsProper
  pub timed_step_is_proper : TimedStepIsProper
  pub retime_is_proper : RetimeIsProper
  -- the kept set
  pub kept_is_scan : KeptIsScan
  pub run_forgets : RunForgets
  pub step_forgets : StepForgets
  -- every phase can be called
  pub phases_can_be_called : PhasesCanBeCalled
  -- sizes
  pub accepted_is_short : AcceptedIsShort
  pub wait_is_in_table : WaitIsInTable
  pub greatest_is_reached : GreatestIsReached
  -- limits, and what is known of an accepted site
  pub table_is_usable : TableIsUsable
  pub accepted_is_sound : AcceptedIsSound
  pub edition_is_named : EditionIsNamed
  pub accepted_is_in_table : AcceptedIsInTable
  -- every refusal has a written number and place
  pub refusal_is_written : RefusalIsWritten
  pub retime_refusal_is_written : RetimeRefusalIsWritten
  -- colours go out in one pass
  pub passed_bytes : PassedBytes
  pub pass_ends_in_colours : PassEndsInColours
  -- the state as 336 bytes, there and back
  pub encoded_has336 : EncodedHas336
  pub encoded_is_timed : EncodedIsTimed
  pub encoded_is_bytes : EncodedIsBytes
  pub decoded_encoded : DecodedEncoded
  pub decoded_is_proper : DecodedIsProper
  pub encoded_decoded : EncodedDecoded
  -- the line for the panel
  pub line_reads_back : LineReadsBack
  pub never_alike : NeverAlike
  pub never_empty : NeverEmpty
  pub no_leading_zero : NoLeadingZero
  pub found_none_means : FoundNoneMeans
  pub step_is_explained : StepIsExplained
  pub told_exactly : ToldExactly
  pub only_calls_count : OnlyCallsCount
  pub longest_line : LongestLine
  pub longest_room_is_enough : LongestRoomIsEnough
  pub length_refusal_is_written : LengthRefusalIsWritten
  pub why_refusal_is_written : WhyRefusalIsWritten
  -- the trace program prints exactly what the papers say, for every input
  pub trace_is_printed : TraceIsPrinted
  -- a state is sealed and resumed
  pub resume_gives_back : ResumeGivesBack
  pub resumed_is_valid : ResumedIsValid
  pub damage_is_refused : DamageIsRefused
  pub four_bytes_are_refused : FourBytesAreRefused
  pub one_byte_is_refused : OneByteIsRefused
  pub other_length_is_refused : OtherLengthIsRefused
  pub other_personality_is_refused : OtherPersonalityIsRefused
  pub other_byte_is_refused : OtherByteIsRefused
  pub longer_or_shorter_is_refused : LongerOrShorterIsRefused
  pub runs_can_be_sealed : RunsCanBeSealed
  pub sealed_runs_go_on : SealedRunsGoOn
  -- refusals of sealing and resuming
  pub seal_refusal_is_written : SealRefusalIsWritten
  pub resume_refusal_is_written : ResumeRefusalIsWritten
  pub seal_refusal_leaves : SealRefusalLeaves
  -- the sealed record
  pub sealed_holds : SealedHolds
  pub sealed_is_bytes : SealedIsBytes
  pub damage_is_found : DamageIsFound
  pub other_length_is_found : OtherLengthIsFound
  pub other_bytes_are_found : OtherBytesAreFound
  -- the check value
  pub crc_is_small : CrcIsSmall
  pub bytes_are_bits : BytesAreBits
  pub burst_is_found : BurstIsFound
  pub closed_burst_is_found : ClosedBurstIsFound
  -- minimum green and passage time from a site sheet
  pub sheet_as_stated : SheetAsStated
  pub sheet_admitted : SheetAdmitted
  -- the simulated road
  pub joins_on_reaching : JoinsOnReaching
  pub arrivals_are_counted : ArrivalsAreCounted
  pub vehicles_are_counted : VehiclesAreCounted
  pub results_are_counted : ResultsAreCounted
  pub no_step_refused : NoStepRefused
  pub road_is_valid : RoadIsValid
  pub road_is_run : RoadIsRun
  pub road_is_safe : RoadIsSafe
  pub road_refusal_is_written : RoadRefusalIsWritten
  -- yellow times by speed and grade
  pub yellow_as_stated : YellowAsStated
  pub never_falls_with_speed : NeverFallsWithSpeed
  pub never_rises_with_grade : NeverRisesWithGrade
  pub yellow_admitted : YellowAdmitted
  -- the cabinet: each site runs as it would alone
  pub cabinet_runs : CabinetRuns
  pub cabinet_runs_hold : CabinetRunsHold
  pub cabinet_demand_three : CabinetDemandThree
  pub placed_holds : PlacedHolds
  pub placed_apart : PlacedApart
  pub placed_shows : PlacedShows
  -- what a call of the cabinet leaves alone
  pub others_stay : OthersStay
  pub outputs_stay : OutputsStay
  pub cabinet_refusal_leaves : CabinetRefusalLeaves
  pub retiming_others_stay : RetimingOthersStay
  pub retiming_refusal_leaves : RetimingRefusalLeaves
  -- the answers of the cabinet
  pub answer_is_written : AnswerIsWritten
  pub retiming_answer_is_written : RetimingAnswerIsWritten
  pub stepping_answers : SteppingAnswers
  pub retiming_answers : RetimingAnswers
  pub shape_stays : ShapeStays
  -- worked cases of the papers
  pub cases_hold : CasesHold
  pub timed_runs_hold : TimedRunsHold
  pub calls_hold : CallsHold
  pub readings_hold : ReadingsHold
  pub limits_hold : LimitsHold
  pub states_hold : StatesHold
  pub steps_hold : StepsHold
  pub answers_hold : AnswersHold
  pub timed_calls_hold : TimedCallsHold
  pub traces_hold : TracesHold
  pub road_cases_hold : RoadCasesHold
  pub cabinet_cases_hold : CabinetCasesHold
  pub why_cases_hold : WhyCasesHold
  pub sheet_cases_hold : SheetCasesHold
  pub yellow_cases_hold : YellowCasesHold
  -- worked cases of bytes
  pub fresh_bytes : FreshBytes
  pub leaving_bytes : LeavingBytes
  pub start_red_longer_bytes : StartRedLongerBytes
  pub junction_starts : JunctionStarts
  pub junction_is_sealed : JunctionIsSealed
  pub seal_cases_hold : SealCasesHold
  pub no_bytes : NoBytes
  pub nine_digits : NineDigits
  pub four_zeros : FourZeros
  pub four_ones : FourOnes
  pub thirty_three_bits : ThirtyThreeBits
