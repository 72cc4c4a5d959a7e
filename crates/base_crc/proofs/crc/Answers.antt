use Rattle.std.proofs.Common.{◌/◌, bit_xor, get_or, arith, refl, sym, ap, ◌∙◌, ℕ}
use Rattle.base_crc.specs.Crc.{all_ones, taken, taken_all, crc}
use Rattle.base_crc.proofs.Shifts.{by-table}
use Rattle.base_crc.proofs.Numbers.{taken-one, taken-whole}
use Rattle.base_crc.proofs.crc.Goals as goal

pub loop-byte-init : goal.loop-byte-init
unfolding taken_all
loop-byte-init c = record { within = omega arith; register = refl }

pub loop-byte-preserved : goal.loop-byte-preserved
loop-byte-preserved c =
    let bytes = c.args.bytes.now in
    let at = c.loop-byte in
    let byte = get_or bytes at.byte-index 0 in
    record {
      within = omega arith;
      register =
          ap (λ (i : ℕ). bit_xor (get_or c.table-table.result i 0) (at.register / 256)) c.from.ensures
          ∙ by-table c.table-table.result at.register byte c.table-table.ensures (omega (arith, c.type_inv.bytes at.byte-index))
          ∙ ap (λ (register : ℕ). taken register byte) at.invariant.register
          ∙ sym (taken-one all_ones bytes at.byte-index c.loop-byte-test.true);
    }

pub returns : goal.returns
unfolding crc
returns c = rw (c.loop-byte.invariant.register, taken-whole all_ones c.args.bytes.now c.loop-byte.byte-index c.loop-byte-test.false)
