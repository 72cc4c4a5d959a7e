-- What the runs compute with. A proof that computes a run says `unfolding computing`.
use Rattle.rules.specs.Scanning.{scan_valid, stepped_finding, scanning}
use Rattle.rules.specs.PhaseWaits.{has_started, demanded_in, every_step, greatest_among, turn_through, late_through, none_changes}
use Rattle.rules.specs.OnceEach.{is_first, some_starts, phase_starts, other_starts, how_many, until_met}
use Rattle.rules.proofs.Opened.{opened}
use Rattle.proof_quick_runs.proofs.QuickRuns.{calls_fit}
use Rattle.proof_refutations.specs.Faults.{passed, passes_ten, with, moved, ages_only, never_alters, dawdles, stays_late, leaves_the_site, is, without_second, ends_on_timer, shortens, hastened, shortens_clearance, choosing, chooses_again, chooses_early_again, registers_none, drops_locks, clearing, drops_presses, forgets_walk, sets_back, invented_bound, small_bound, step_told, retime_told, own_bound, unread, demanded_else, from_the_beginning, back_to, goes_back, ruled_now, only_retimes}
use Rattle.proof_refutations.proofs.Violations.{together, starts, cut, skipped, early, cleared, reddened, stopped, unmet, answers, twice, twice_pressed, unwalked, unserved, uncalled, unserved_through, unwalked_through, begun, walked}
use Rattle.proof_refutations.proofs.Witnesses.{calls_from, shortest, small, small_from, small_later, small_late, small_crossings, three_and_crossing, crossings, long_clearance, shared, shared_arrow, at_once, walk_then_b, later_b, pressed_again, longest_wait, called_again, then_a, first_step, until_ten, back_to_a, pressed_twice, steps_from, retimed_in_yellow, retimed_twice, retimed_once, retimed_first, short_buffer}

unfoldable pub computing : Unit {0}
unfolding
    scan_valid stepped_finding scanning has_started demanded_in every_step greatest_among turn_through late_through none_changes is_first some_starts phase_starts
    other_starts how_many until_met opened calls_fit passed passes_ten with moved ages_only never_alters dawdles stays_late leaves_the_site is without_second ends_on_timer shortens
    hastened shortens_clearance choosing chooses_again chooses_early_again registers_none drops_locks clearing drops_presses forgets_walk sets_back invented_bound small_bound
    step_told retime_told own_bound unread demanded_else from_the_beginning back_to goes_back ruled_now only_retimes together starts cut skipped early cleared reddened stopped unmet
    answers twice twice_pressed unwalked unserved uncalled unserved_through unwalked_through begun walked calls_from shortest small small_from small_later small_late small_crossings
    three_and_crossing crossings long_clearance shared shared_arrow at_once walk_then_b later_b pressed_again longest_wait called_again then_a first_step until_ten back_to_a
    pressed_twice steps_from retimed_in_yellow retimed_twice retimed_once retimed_first short_buffer
computing = tt
