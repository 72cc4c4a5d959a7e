-- Every definition that a step call, a run of calls and a worked case compute with. A proof that computes says `unfolding opened`.
use Rattle.laws.specs.Folds.{any_of, all_of, count_of, sum_of, set_of, greatest_of, list_of, indices_of, row_of}
use Rattle.laws.specs.Bytes.{byte_at, two_at, four_at, bit}
use Rattle.rules.specs.Limits.{limits, limit_of, within}
use Rattle.rules.specs.Verdicts.{◌or_else◌, refuse_if, first_of}
use Rattle.rules.specs.Personality.{body_length, kind_at, body_at, record_at, phase_count, group_count, groups_head, conflicts_head, detectors_head, pedestrians_head, edition_of, group_set, group_mark, pedestrian, movement_count, conflict_set, detector_count, detector_phase, detector_mode, end_of, past_section, has_head, early_head, has_early, order_head, has_order, order_at, section_at, time_at, times_at, site_section, time_records, timed_section, phases_section, bad_group, ninth_pedestrian, group_record, phase_without_group, groups_section, bad_conflict, share_phase, conflict_in_phase, conflicts_section, known_mode, bad_detector, bad_detector_at, detector_record, detectors_section, pedestrians_section, early_section, phase_not_once, order_section, calls_phase, walks_phase, phase_without_caller, stops_early, early_missing, left_over, after_pedestrians, verdict_of}
use Rattle.rules.specs.Site.{early_time_at, order_in, phase_times_at, walk_times_at, times_in, crossing_at, site_of, group_of, detector_of, phase_times, walk_times, in_phase, crosses, is_pedestrian, movement_of, conflict, ring}
use Rattle.rules.specs.Lookup.{held_kind, lookup_verdict}
use Rattle.rules.specs.IntervalTable.{is_held, phase_held, held_in}
use Rattle.rules.specs.State.{fresh, locked, asked, movement, interval_valid, target_valid, previous_valid, age_valid, position_valid, counts_valid, demands_valid, movement_valid, movements_valid, valid}
use Rattle.rules.specs.Demands.{occupied, pressed, calling, locking, extending, detected_among, detected, in_green, registers_lock, registers_button, calls, locks_after, buttons_after, demands_after, movement_demands, stands, demanded, after, before, first_in, next_after, next_demanded}
use Rattle.rules.specs.Movements.{older, walk_may_end, lasting, advanced, movements_after}
use Rattle.rules.specs.Counts.{gap_after, maximum_after, counts_after}
use Rattle.rules.specs.Interval.{some_movement, ends, entering, starting, leaving, following, staying, position_after, counts_leaving, counts_entering, counts_changed, clears_lock, locks_left, starts}
use Rattle.rules.specs.Walks.{begins, walks_begun, buttons_left}
use Rattle.rules.specs.Step.{stepped_into, stepped_to, stepped}
use Rattle.rules.specs.Kept.{fresh_kept, is_kept, kept_valid, press_keeps, kept_after, next_kept, gone, cleared, kept_left, kept_stepped}
use Rattle.rules.specs.SiteTimes.{no_times, each_within, phase_within, walk_within, times_within, admitted, blank}
use Rattle.rules.specs.Timed.{none_waiting, fresh_timed, waiting_valid, timed_valid, starts_next, takes_over, ruling_next, timed_stepped}
use Rattle.rules.specs.Colours.{since_cut_off, closing, vehicle_colour, movement_colour, vehicle_shown, colour_of, shown_in, colours_of}
use Rattle.rules.specs.WaitBound.{phase_share, longest_walk, longest_clearance, wait_bound}
use Rattle.rules.specs.Waits.{walk_ending, ending, turn_of, comes_after, clearing_of, clears_first, own_of, rest_of, phase_wait_by, movement_wait_by, phase_of_movement, waits_of}
use Rattle.rules.specs.Call.{wired, stray_input, step_verdict, bound_for, handed_back, buffer_for, checks_by}
use Rattle.rules.specs.TimedCall.{between, time_byte, differs_elsewhere, retime_checks_by, retimed}
use Rattle.rules.specs.Runs.{by_rules, taken_from, left_by, if_accepted, accepted_steps}
use Rattle.rules.specs.DemandThree.{changed_waits, shows, shown_by, last_green, in_minimum_green, in_walk, in_running, registers_locked, registers_pressed, minimum_green_begins, walk_begins, some_step}
use Rattle.rules.specs.StepDemandThree.{comes_within}
use Rattle.rules.specs.Junctions.{two, four, twos, fours, section, sections, put_two, put_kind, put_twos, copies, short_phase, junction, slower, late_b, crossing, other_walk, three_phases, calling_b, overlap, cut_offs, turning, turning_both, ordered, longer_reds, edition_two, one_group, seven_phases, eight_crossings, wide}

unfoldable pub opened : Unit {0}
unfolding any_of all_of count_of sum_of set_of greatest_of list_of indices_of byte_at two_at four_at bit limits limit_of within ◌or_else◌ refuse_if first_of body_length kind_at body_at record_at phase_count group_count groups_head conflicts_head detectors_head pedestrians_head edition_of group_set group_mark pedestrian movement_count conflict_set detector_count detector_phase detector_mode end_of past_section has_head early_head has_early order_head has_order order_at section_at time_at times_at site_section time_records timed_section phases_section bad_group ninth_pedestrian group_record phase_without_group groups_section bad_conflict share_phase conflict_in_phase conflicts_section known_mode bad_detector bad_detector_at detector_record detectors_section pedestrians_section early_section phase_not_once order_section calls_phase walks_phase phase_without_caller stops_early early_missing left_over after_pedestrians verdict_of row_of early_time_at order_in phase_times_at walk_times_at times_in crossing_at site_of group_of detector_of phase_times walk_times in_phase crosses is_pedestrian movement_of conflict ring held_kind lookup_verdict is_held phase_held held_in fresh locked asked movement interval_valid target_valid previous_valid age_valid position_valid counts_valid demands_valid movement_valid movements_valid valid occupied pressed calling locking extending detected_among detected in_green registers_lock registers_button calls locks_after buttons_after demands_after movement_demands stands demanded after before first_in next_after next_demanded older walk_may_end lasting advanced movements_after gap_after maximum_after counts_after some_movement ends entering starting leaving following staying position_after counts_leaving counts_entering counts_changed clears_lock locks_left starts begins walks_begun buttons_left stepped_into stepped_to stepped fresh_kept is_kept kept_valid press_keeps kept_after next_kept gone cleared kept_left kept_stepped no_times each_within phase_within walk_within times_within admitted blank none_waiting fresh_timed waiting_valid timed_valid starts_next takes_over ruling_next timed_stepped since_cut_off closing vehicle_colour movement_colour vehicle_shown colour_of shown_in colours_of longest_walk longest_clearance phase_share wait_bound walk_ending ending turn_of comes_after clearing_of clears_first own_of rest_of phase_wait_by movement_wait_by phase_of_movement waits_of wired stray_input step_verdict bound_for handed_back buffer_for checks_by between time_byte differs_elsewhere retime_checks_by retimed by_rules taken_from left_by if_accepted accepted_steps changed_waits shows shown_by last_green in_minimum_green in_walk in_running registers_locked registers_pressed minimum_green_begins walk_begins some_step comes_within two four twos fours section sections put_two put_kind put_twos copies short_phase junction slower late_b crossing other_walk three_phases calling_b overlap one_group seven_phases eight_crossings wide cut_offs turning turning_both ordered longer_reds edition_two
opened = tt
