-- The statements about controllers that must not pass. Their runs are computed in the other files: of demand 3 in `Safety` (parts a and b), `Standing`, `Locks`,
-- `Presses` and `Retimed` (part c) and `Answers` (part d); of once each in `Starts`; of the waits in `Waits` and `LongWaits`.
use Rattle.proof_refutations.specs.Refutations.{Refutations, RulesAtOnceFails, SmallBoundFails, StepRefutations, StartsTwice, SettingBackFails, WaitsBroken}
use Rattle.proof_refutations.proofs.Safety.{passes-ten, ends-on-timer, chooses-again, chooses-early-again, short-red, steps-short-red, short-yellow, short-clearance, yellow-for-red, flashing-for-red, ruled-at-once}
use Rattle.proof_refutations.proofs.Standing.{ages-only, never-alters, one-step-late, steps-one-step-late}
use Rattle.proof_refutations.proofs.Locks.{registers-none, unread-fails, drops-locks}
use Rattle.proof_refutations.proofs.Presses.{drops-presses}
use Rattle.proof_refutations.proofs.Retimed.{only-retimes}
use Rattle.proof_refutations.proofs.Answers.{leaves-the-site, reports-invented, steps-report-invented, reports-small, reports-own, stray-number, stray-place, buffer-number, buffer-place, read_number, elsewhere-number, elsewhere-place}
use Rattle.proof_refutations.proofs.Starts.{twice-started}
use Rattle.proof_refutations.proofs.Waits.{waits}
use Rattle.proof_refutations.proofs.LongWaits.{small-bound, set_back}

pub refutations : Refutations
refutations =
    record {
      passes_ten = passes-ten;
      ends_on_timer = ends-on-timer;
      chooses_again = chooses-again;
      chooses_early_again = chooses-early-again;
      short_red = short-red;
      short_yellow = short-yellow;
      short_clearance = short-clearance;
      yellow_for_red = yellow-for-red;
      flashing_for_red = flashing-for-red;
      ages_only = ages-only;
      never_alters = never-alters;
      one_step_late = one-step-late;
      registers_none = registers-none;
      unread = unread-fails;
      drops_locks = drops-locks;
      drops_presses = drops-presses;
      only_retimes = only-retimes;
      leaves_the_site = leaves-the-site;
      reports_invented = reports-invented;
      reports_small = reports-small;
      reports_own = reports-own;
      stray_number = stray-number;
      stray_place = stray-place;
      buffer_number = buffer-number;
      buffer_place = buffer-place;
      read_number = read_number;
      elsewhere_number = elsewhere-number;
      elsewhere_place = elsewhere-place;
    }

pub step-refutations : StepRefutations
step-refutations = record { short_red = steps-short-red; one_step_late = steps-one-step-late; reports_invented = steps-report-invented }

pub rules-at-once-fails : RulesAtOnceFails
rules-at-once-fails = ruled-at-once

pub small-bound-fails : SmallBoundFails
small-bound-fails = small-bound

pub starts-twice : StartsTwice
starts-twice = twice-started

pub setting-back-fails : SettingBackFails
setting-back-fails = set_back

pub waits-broken : WaitsBroken
waits-broken = waits
