use Rattle.std.proofs.Common.{◌≤◌, ◌≡◌, length, take}
use Rattle.base_crc.specs.Crc.{all_ones, taken_all}
use Rattle.base_crc.proofs.crc.Given as goal

-- the register is that of the bytes so far
abbrev pub invariant-loop-byte : goal.invariant-loop-byte
invariant-loop-byte l = record {
  within : l.byte-index ≤ length l.bytes;
  register : l.register ≡ taken_all all_ones (take l.byte-index l.bytes);
}
