-- Each of the three things that a detector may ask is asked by some of the modes.
use Rattle.std.proofs.Common.{◌≡◌, ℕ, ◌+◌, ◌*◌, ◌<◌, eqb, ◌∙◌}
use Rattle.laws.specs.Bytes.{bit}
use Rattle.step_demands_detectors.proofs.Modes.{Of, of_either, of-kind, locking-modes, calling-modes, extending-modes}
use Rattle.step_demands_detectors.proofs.sense.Goals as goal

pub returns : goal.returns
returns c =
    let args = c.args in
    let known = c.requires.0 in
    let row : (m set : ℕ) → ((p : ℕ) → p < 8 → bit p set ≡ bit (8 * m + p) c.table-set.result) → Of args.detectors.now args.inputs (λ mode. eqb mode m) set =
    λ m set own. record { told = λ p l. own p l ∙ c.table-set.ensures m p l } in
    record {
      locks = of-kind known locking-modes (of_either (row 2 _ c.with_mode-4.ensures) (row 6 _ c.with_mode-5.ensures));
      calls = of-kind known calling-modes (of_either (row 1 _ c.with_mode-6.ensures) (row 5 _ c.with_mode-7.ensures));
      extended =
          c.bit8.ensures
          ∙ of-kind known extending-modes
          (of_either
          (of_either (row 4 _ c.with_mode.ensures) (row 5 _ c.with_mode-2.ensures))
          (row 6 _ c.with_mode-3.ensures)) args.phase c.requires.1;
    }
