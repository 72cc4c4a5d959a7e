-- Each theorem has its statement as its type, and no premise beside it: all stand in one closed term.
use Rattle.rules.proofs.AnswerCases.{answers-hold}
use Rattle.rules.proofs.CallCases.{calls-hold}
use Rattle.rules.proofs.LimitCases.{limits-hold}
use Rattle.rules.proofs.Pass.{passed-bytes, pass-ends-in-colours}
use Rattle.rules.proofs.ReadingCases.{readings-hold}
use Rattle.rules.proofs.Settings.{table-is-usable}
use Rattle.rules.proofs.StateCases.{states-hold}
use Rattle.rules.proofs.StepCases.{steps-hold}
use Rattle.rules.proofs.TimedCases.{timed-calls-hold}
use Rattle.proof_acceptance.proofs.Acceptance.{accepted-is-sound, edition-is-named, accepted-is-in-table}
use Rattle.proof_acceptance.proofs.Largest.{greatest-is-reached}
use Rattle.proof_acceptance.proofs.Refusals.{accepted-is-short, refusal-is-written, retime-refusal-is-written}
use Rattle.proof_acceptance.proofs.WaitBound.{wait-is-in-table}
use Rattle.proof_kept.proofs.Scans.{kept-is-scan}
use Rattle.proof_time_bytes.proofs.Elsewhere.{accepted-is-admitted, retimed-is-admitted}
use Rattle.proof_time_bytes.proofs.Put.{admitted-is-accepted, differs-exactly}
use Rattle.proof_guarantees.proofs.Accepted.{takes-over-at-start, change-is-step, ready-is-valid, otherwise-plain, fresh-is-valid, step-keeps-valid, retime-keeps-valid, step-forgets, phases-can-be-called}
use Rattle.proof_guarantees.proofs.DemandThree.{demand-three, runs-have-no-conflicting-greens, runs-have-full-clearances, runs-meet-demands, runs-have-no-dead-end}
use Rattle.proof_guarantees.proofs.Junction.{never-together, met-in-270, always-answered}
use Rattle.proof_guarantees.proofs.OnceEach.{runs-start-once-each, runs-start-others-once, runs-start-few-others}
use Rattle.proof_guarantees.proofs.PhaseWaits.{every-wait-met, every-plain-wait-met, waits-within-bound, every-wait-within-sum, phase-is-told}
use Rattle.proof_guarantees.proofs.ScanningRuns.{run-forgets}
use Rattle.proof_guarantees.proofs.StepDemandThree.{step-demand-three, step-demand-follows}
use Rattle.proof_lamps.proofs.Lamps.{runs-serve-lamps}
use Rattle.proof_refutations.proofs.Dark.{red-meets-demand-three, red-fails, lamps-fail}
use Rattle.proof_refutations.proofs.Refutations.{refutations, step-refutations, rules-at-once-fails, starts-twice, setting-back-fails, small-bound-fails, waits-broken}
use Rattle.proof_cases.proofs.Cases.{cases-hold}
use Rattle.proof_cases.proofs.TimedCases.{timed-runs-hold}
use Rattle.proof_wait_cases.proofs.Reached.{waits-reached}
use Rattle.proof_wait_cases.proofs.WaitCases.{example-waits}
use Rattle.base_crc.proofs.Bursts.{bytes-are-bits, burst-is-found, closed-burst-is-found}
use Rattle.base_crc.proofs.CrcCases.{no_bytes, nine-digits, four-zeros, four-ones, thirty-three-bits}
use Rattle.base_crc.proofs.Numbers.{crc-is-small}
use Rattle.run_text.proofs.TraceCases.{traces-hold}
use Rattle.state_bytes.proofs.StateCases.{fresh-bytes, leaving-bytes}
use Rattle.state_timed.proofs.TimedRoundTrips.{encoded-has-336, encoded-is-timed, encoded-is-bytes, decoded-encoded, decoded-is-proper, encoded-decoded, start-red-longer-bytes}
use Rattle.state_sealed.proofs.SealedLaws.{sealed-holds, sealed-is-bytes, damage-is-found, other-length-is-found, other-bytes-are-found}
use Rattle.panel_text.proofs.Decimals.{no-leading-zero}
use Rattle.panel_text.proofs.Lines.{line-reads-back, never-alike, never-empty}
use Rattle.sheet_settings.proofs.SheetCases.{cases-hold as sheet-cases-hold}
use Rattle.sheet_settings.proofs.Stated.{as-stated as sheet-as-stated, admitted as sheet-admitted}
use Rattle.proof_road.proofs.Flow.{joins-on-reaching, arrivals-are-counted, vehicles-are-counted}
use Rattle.proof_road.proofs.Refusals.{road-refusal-is-written}
use Rattle.proof_road.proofs.Results.{results-are-counted}
use Rattle.proof_road.proofs.RoadCases.{road-cases-hold}
use Rattle.proof_road.proofs.Runs.{road-is-run, road-is-safe}
use Rattle.proof_road.proofs.Steps.{no-step-refused, road-is-valid}
use Rattle.sheet_yellow.proofs.Stated.{as-stated as yellow-as-stated}
use Rattle.sheet_yellow.proofs.YellowCases.{cases-hold as yellow-cases-hold}
use Rattle.sheet_yellow.proofs.YellowLaws.{never-falls-with-speed, never-rises-with-grade, admitted as yellow-admitted}
use Rattle.cabinet_records.proofs.CabinetCases.{cabinet-cases-hold}
use Rattle.cabinet_records.proofs.CabinetLaws.{others-stay, outputs-stay, refusal-leaves as cabinet-refusal-leaves}
use Rattle.proof_panel.proofs.Found.{found-none-means}
use Rattle.proof_panel.proofs.Inputs.{only-calls-count}
use Rattle.proof_panel.proofs.Lengths.{longest-line, longest-room-is-enough}
use Rattle.proof_panel.proofs.Refusals.{length-refusal-is-written, why-refusal-is-written}
use Rattle.proof_panel.proofs.Steps.{step-is-explained, told-exactly}
use Rattle.proof_panel.proofs.WhyCases.{why-cases-hold}
use Rattle.proof_board.proofs.BoardRuns.{fresh-accepts, board-runs-alike, board-runs-hold, board-demand-three, board-step-demand-three, board-once-each, board-waits-met, board-plain-waits-met, board-lamps-served}
use Rattle.proof_board.proofs.Proper.{fresh-timed-is-proper, timed-step-is-proper, retime-is-proper}
use Rattle.proof_state_times.proofs.StateTimes.{state-would-be-accepted, state-exactly}
use Rattle.proof_cabinet.proofs.Answers.{answer-is-written, retiming-answer-is-written, stepping-answers, retiming-answers}
use Rattle.proof_cabinet.proofs.Apart.{placed-holds, placed-apart}
use Rattle.proof_cabinet.proofs.Retimings.{retiming-others-stay, retiming-refusal-leaves}
use Rattle.proof_cabinet.proofs.Runs.{cabinet-once-each, cabinet-waits-met, cabinet-lamps-served, cabinet-runs, cabinet-runs-hold, cabinet-demand-three}
use Rattle.proof_cabinet.proofs.Shapes.{shape-stays}
use Rattle.proof_cabinet.proofs.Shows.{placed-shows}
use Rattle.proof_seal.proofs.SealAnswers.{seal-refusal-is-written, resume-refusal-is-written, refusal-leaves as seal-refusal-leaves}
use Rattle.proof_seal.proofs.SealCases.{junction-starts, junction-is-sealed, cases-hold as seal-cases-hold}
use Rattle.proof_seal.proofs.SealLaws.{resume-gives-back, resumed-is-valid, damage-is-refused, four-bytes-are-refused, one-byte-is-refused, other-length-is-refused, other-personality-is-refused, other-byte-is-refused, longer-or-shorter-is-refused}
use Rattle.proof_seal.proofs.SealedRuns.{runs-can-be-sealed, sealed-runs-go-on}
use Rattle.proof_trace.proofs.TraceRuns.{trace-is-printed}
use Rattle.proof_promises.specs.Promises.{Promises}

pub promises : Promises
promises =
    record {
      fresh_accepts = fresh-accepts;
      board_runs_alike = board-runs-alike;
      board_runs_hold = board-runs-hold;
      board_demand_three = board-demand-three;
      board_step_demand_three = board-step-demand-three;
      demand_three = demand-three;
      runs_have_no_conflicting_greens = runs-have-no-conflicting-greens;
      runs_have_full_clearances = runs-have-full-clearances;
      runs_meet_demands = runs-meet-demands;
      runs_have_no_dead_end = runs-have-no-dead-end;
      runs_start_once_each = runs-start-once-each;
      runs_start_others_once = runs-start-others-once;
      runs_start_few_others = runs-start-few-others;
      board_once_each = board-once-each;
      cabinet_once_each = cabinet-once-each;
      every_wait_met = every-wait-met;
      every_plain_wait_met = every-plain-wait-met;
      board_waits_met = board-waits-met;
      board_plain_waits_met = board-plain-waits-met;
      cabinet_waits_met = cabinet-waits-met;
      runs_serve_lamps = runs-serve-lamps;
      board_lamps_served = board-lamps-served;
      cabinet_lamps_served = cabinet-lamps-served;
      waits_within_bound = waits-within-bound;
      every_wait_within_sum = every-wait-within-sum;
      phase_is_told = phase-is-told;
      example_waits = example-waits;
      waits_reached = waits-reached;
      step_demand_three = step-demand-three;
      step_demand_follows = step-demand-follows;
      never_together = never-together;
      met_in270 = met-in-270;
      always_answered = always-answered;
      takes_over_at_start = takes-over-at-start;
      change_is_step = change-is-step;
      ready_is_valid = ready-is-valid;
      otherwise_plain = otherwise-plain;
      accepted_is_admitted = accepted-is-admitted;
      admitted_is_accepted = admitted-is-accepted;
      differs_exactly = differs-exactly;
      retimed_is_admitted = retimed-is-admitted;
      state_would_be_accepted = state-would-be-accepted;
      state_exactly = state-exactly;
      refutations = refutations;
      step_refutations = step-refutations;
      rules_at_once_fails = rules-at-once-fails;
      starts_twice = starts-twice;
      setting_back_fails = setting-back-fails;
      small_bound_fails = small-bound-fails;
      waits_broken = waits-broken;
      red_meets_demand_three = red-meets-demand-three;
      red_fails = red-fails;
      lamps_fail = lamps-fail;
      fresh_is_valid = fresh-is-valid;
      step_keeps_valid = step-keeps-valid;
      retime_keeps_valid = retime-keeps-valid;
      fresh_timed_is_proper = fresh-timed-is-proper;
      timed_step_is_proper = timed-step-is-proper;
      retime_is_proper = retime-is-proper;
      kept_is_scan = kept-is-scan;
      run_forgets = run-forgets;
      step_forgets = step-forgets;
      phases_can_be_called = phases-can-be-called;
      accepted_is_short = accepted-is-short;
      wait_is_in_table = wait-is-in-table;
      greatest_is_reached = greatest-is-reached;
      table_is_usable = table-is-usable;
      accepted_is_sound = accepted-is-sound;
      edition_is_named = edition-is-named;
      accepted_is_in_table = accepted-is-in-table;
      refusal_is_written = refusal-is-written;
      retime_refusal_is_written = retime-refusal-is-written;
      passed_bytes = passed-bytes;
      pass_ends_in_colours = pass-ends-in-colours;
      encoded_has336 = encoded-has-336;
      encoded_is_timed = encoded-is-timed;
      encoded_is_bytes = encoded-is-bytes;
      decoded_encoded = decoded-encoded;
      decoded_is_proper = decoded-is-proper;
      encoded_decoded = encoded-decoded;
      line_reads_back = line-reads-back;
      never_alike = never-alike;
      never_empty = never-empty;
      no_leading_zero = no-leading-zero;
      found_none_means = found-none-means;
      step_is_explained = step-is-explained;
      told_exactly = told-exactly;
      only_calls_count = only-calls-count;
      longest_line = longest-line;
      longest_room_is_enough = longest-room-is-enough;
      length_refusal_is_written = length-refusal-is-written;
      why_refusal_is_written = why-refusal-is-written;
      trace_is_printed = trace-is-printed;
      resume_gives_back = resume-gives-back;
      resumed_is_valid = resumed-is-valid;
      damage_is_refused = damage-is-refused;
      four_bytes_are_refused = four-bytes-are-refused;
      one_byte_is_refused = one-byte-is-refused;
      other_length_is_refused = other-length-is-refused;
      other_personality_is_refused = other-personality-is-refused;
      other_byte_is_refused = other-byte-is-refused;
      longer_or_shorter_is_refused = longer-or-shorter-is-refused;
      runs_can_be_sealed = runs-can-be-sealed;
      sealed_runs_go_on = sealed-runs-go-on;
      seal_refusal_is_written = seal-refusal-is-written;
      resume_refusal_is_written = resume-refusal-is-written;
      seal_refusal_leaves = seal-refusal-leaves;
      sealed_holds = sealed-holds;
      sealed_is_bytes = sealed-is-bytes;
      damage_is_found = damage-is-found;
      other_length_is_found = other-length-is-found;
      other_bytes_are_found = other-bytes-are-found;
      crc_is_small = crc-is-small;
      bytes_are_bits = bytes-are-bits;
      burst_is_found = burst-is-found;
      closed_burst_is_found = closed-burst-is-found;
      sheet_as_stated = sheet-as-stated;
      sheet_admitted = sheet-admitted;
      joins_on_reaching = joins-on-reaching;
      arrivals_are_counted = arrivals-are-counted;
      vehicles_are_counted = vehicles-are-counted;
      results_are_counted = results-are-counted;
      no_step_refused = no-step-refused;
      road_is_valid = road-is-valid;
      road_is_run = road-is-run;
      road_is_safe = road-is-safe;
      road_refusal_is_written = road-refusal-is-written;
      yellow_as_stated = yellow-as-stated;
      never_falls_with_speed = never-falls-with-speed;
      never_rises_with_grade = never-rises-with-grade;
      yellow_admitted = yellow-admitted;
      cabinet_runs = cabinet-runs;
      cabinet_runs_hold = cabinet-runs-hold;
      cabinet_demand_three = cabinet-demand-three;
      placed_holds = placed-holds;
      placed_apart = placed-apart;
      placed_shows = placed-shows;
      others_stay = others-stay;
      outputs_stay = outputs-stay;
      cabinet_refusal_leaves = cabinet-refusal-leaves;
      retiming_others_stay = retiming-others-stay;
      retiming_refusal_leaves = retiming-refusal-leaves;
      answer_is_written = answer-is-written;
      retiming_answer_is_written = retiming-answer-is-written;
      stepping_answers = stepping-answers;
      retiming_answers = retiming-answers;
      shape_stays = shape-stays;
      cases_hold = cases-hold;
      timed_runs_hold = timed-runs-hold;
      calls_hold = calls-hold;
      readings_hold = readings-hold;
      limits_hold = limits-hold;
      states_hold = states-hold;
      steps_hold = steps-hold;
      answers_hold = answers-hold;
      timed_calls_hold = timed-calls-hold;
      traces_hold = traces-hold;
      road_cases_hold = road-cases-hold;
      cabinet_cases_hold = cabinet-cases-hold;
      why_cases_hold = why-cases-hold;
      sheet_cases_hold = sheet-cases-hold;
      yellow_cases_hold = yellow-cases-hold;
      fresh_bytes = fresh-bytes;
      leaving_bytes = leaving-bytes;
      start_red_longer_bytes = start-red-longer-bytes;
      junction_starts = junction-starts;
      junction_is_sealed = junction-is-sealed;
      seal_cases_hold = seal-cases-hold;
      no_bytes = no_bytes;
      nine_digits = nine-digits;
      four_zeros = four-zeros;
      four_ones = four-ones;
      thirty_three_bits = thirty-three-bits;
    }
