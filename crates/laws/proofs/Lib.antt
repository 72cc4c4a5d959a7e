-- Laws that know nothing of traffic signals: their one home. A law that two proofs need is here if it names nothing of the rules, and in
-- rules/proofs if it does.
--
--   Booleans    and, or, not: and-left, and-both, or-cases, or-false-both; decided, never-both, same-tests; implied, otherwise, not-both
--   Indices     last-or-below, below-or-past, same-or-apart; eqb-turned, in-range; passes-below, upto-more
--   Folds       any fold: fold-same (f = g below n), fold-at (each entry); any-found, any-at, any-none, any-past, all-at, all-each; Tested (a loop)
--   Ranges      what `all` and `any` over a range found: all_of_range, any_of_range
--   Tables      a rule shown by one computation: table-holds, table-same, table-equal, grid-holds, grid-same
--   Sums        sum_of and greatest_of: sum-same, sum-at, sum-within, sum-most, sum-but, greatest-at, greatest-most
--   Counting    count_of and indices_of: count-before, count-apart, count-within, count-one, count-only, indices-at, listed-once
--   Lists       list_of, row_of and any list: list-at, list-same, list-told, listed, list-set, row-at, row-past, row-told; entry-same (the default)
--   Arrays      an array that a loop fills: Filled, fill_step, fill_done, fill-kept; or writes part behind part: Stored
--   Rows        a blank array that a loop fills from the front: Filled, filled-none, filled-more, filled-whole, blanks-left
--   Entries     sums over the entries of a list: total, places, In, total-append
--   Bits        bits of one number: bit-above, bit-below, bit-lower, bit-down, bit-up, half-bit, odd-bit, same-bits, no-bits, bit-one
--   BitRanges   bits from a place on or below one: no-bits-from, bit-from, reaches, full-each, all-full, ones-counted, shifted, firsts
--   JoinedBits  bits of two numbers: bit-and, bit-or, bit-xor, in-common, common-below, joined-below, first-row, next-row
--   ExclusiveOr numbers with the same bits: same-numbers; xor-swap, xor-assoc, xor-twice, xor-cancel, xor-split
--   LowestBit   a pass that takes the lowest bit of what is left: lowest, others, taken, Left, next-within, left-more, counted, counted-same
--   Words       a number as the set of the indices below n that pass: word_of, word-small, word-bit, word-past
--   ByteSets    a byte as a set: set-small, bit-set, set-same, set-told, self-told, union-told, with-told, without-told, below-told
--   Bytes       numbers in lists of bytes: byte-past, first-byte, part, part-more, four-bit
--   Decimals    a number in decimal: one-digit, one-digit-more; length-one, length-more, some-digit, at-most
pub mod Booleans
pub mod Indices
pub mod Folds
pub mod Ranges
pub mod Tables
pub mod Sums
pub mod Counting
pub mod Lists
pub mod Arrays
pub mod Rows
pub mod Entries
pub mod Bits
pub mod BitRanges
pub mod JoinedBits
pub mod ExclusiveOr
pub mod LowestBit
pub mod Words
pub mod ByteSets
pub mod Bytes
pub mod Decimals
