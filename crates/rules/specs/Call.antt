-- A step call: from personality bytes, a state, 64 input bits and a colour buffer of any content to the answer and the buffer afterwards.
use Rattle.std.specs.Prelude.{ℕ, ◌+◌, Bool, not, ◌&&◌, ◌||◌, List, ◌++◌, leb, ltb, drop, Ok, Err}
use Rattle.rules.specs.Types.{Outcome, Stepped, StepRefused, Verdict, Accepted, Refused, Site, State}
use Rattle.laws.specs.Folds.{any_of}
use Rattle.laws.specs.Bytes.{bit}
use Rattle.rules.specs.Verdicts.{◌or_else◌, refuse_if}
use Rattle.rules.specs.Personality.{verdict_of}
use Rattle.rules.specs.Site.{site_of}
use Rattle.rules.specs.Colours.{colours_of}
use Rattle.rules.specs.WaitBound.{wait_bound}

-- input bit i has a detector or a button
unfoldable pub wired : Site → ℕ → Bool
wired site i = ltb i site.size.detectors || (leb 48 i && ltb i (48 + site.size.movements))

-- some input bit is set that has no detector and no button
unfoldable pub stray_input : Site → ℕ → Bool
stray_input site inputs = any_of (λ i. bit i inputs && not (wired site i)) 64

-- the checks of a step call on an accepted site: 13, then 15, then 14, all at 0
unfoldable pub step_verdict : Site → Bool → ℕ → ℕ → Verdict
step_verdict site is_valid inputs room =
    refuse_if (not is_valid) 13 0
    or_else refuse_if (stray_input site inputs) 15 0
    or_else refuse_if (ltb room site.size.groups) 14 0

-- an accepted step reports the wait
unfoldable pub bound_for : Verdict → ℕ → Outcome
bound_for (Ok _) wait = Stepped wait
bound_for (Err r) wait = StepRefused r.number r.place

-- a refusal hands back the old state
unfoldable pub handed_back : {S : Type 0} → Verdict → S → S → S
handed_back (Ok _) new old = new
handed_back (Err r) new old = old

-- the first N bytes become the colours of the new state, and the others do not change; after a refusal no byte changes
unfoldable pub buffer_for : Verdict → Site → State → List ℕ → List ℕ
buffer_for (Ok _) site new buffer = colours_of site new ++ drop site.size.groups buffer
buffer_for (Err r) site new buffer = buffer

-- the whole check of a step call, by the verdict on a personality and the test of a valid state: the personality first
unfoldable pub checks_by : {S : Type 0} → (List ℕ → Verdict) → (Site → S → Bool) → List ℕ → S → ℕ → ℕ → Verdict
checks_by verdict valid b s inputs room = verdict b or_else step_verdict (site_of b) (valid (site_of b) s) inputs room

-- ── Unit three: the wait bound of a personality, or its refusal ──

unfoldable pub bound_of : List ℕ → Outcome
bound_of b = bound_for (verdict_of b) (wait_bound (site_of b))
