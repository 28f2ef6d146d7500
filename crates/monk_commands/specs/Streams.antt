-- What a stream does to what its reader has left and its writer holds.
use Rattle.std.specs.Prelude.{◌≡◌, ℕ, ◌+◌, ◌<◌, ◌≤◌, ◌^◌, ◌⊎◌, false, true, List, Option, IfSome, Result, OnOk, IsErrOf}
use Rattle.std.specs.Io.KnownBytes.{Appends, IsAtEnd}
use Rattle.monk_history.specs.Text.Device.{reads_of, bytes_of, has_failed, inner_of}
use Rattle.monk_history.specs.declared.text.device.Device.{Device}
use Rattle.monk_commands.specs.Answer.{LineAnswer}
use Rattle.monk_commands.specs.declared.report.Report.{Report, TheVariants.History}
use Rattle.monk_commands.specs.declared.fault.StreamFault.{StreamFault, TheVariants.File, TheVariants.Memory}

-- known input and output: the status and the appended line are the answer's
abbrev pub Answers : (List ℕ → LineAnswer) → Option (List ℕ) → Option (List ℕ) → Option (List ℕ) → ℕ → Type 0
Answers answer input before after status =
    IfSome input (λ bytes. (status ≡ (answer bytes).status) × Appends before after (answer bytes).text)

-- such a text is written, with that status
pub record IsPut (Is : ℕ → List ℕ → Type 0) (status : ℕ) (Puts : List ℕ → Type 0) : Type 0 where
  pub text : List ℕ
  pub is : Is status text
  pub puts : Puts text

-- its counters are far from their end
pub record IsYoung {R : Type 0} (d : Device R) : Type 0 where
  pub reads : reads_of d < 2 ^ 63
  pub bytes : bytes_of d < 2 ^ 63

-- the reads or the bytes that an input may take were used up
abbrev pub IsPastBound : {R : Type 0} → Device R → Device R → Type 0
IsPastBound old new = (reads_of old + 2 ^ 31 ≤ reads_of new) ⊎ (bytes_of old + 2 ^ 31 < bytes_of new)

-- how a call leaves a reader that had not failed: if it went well, it has read all; if it reports a
-- file, a read failed or the input was too long; if it reports memory, no read failed
pub record IsReading {R T : Type 0} (remaining : R → Option (List ℕ)) (old new : Device R)
    (result : Result T StreamFault) : Type 0 where
  pub all_read : OnOk result (IsAtEnd (remaining (inner_of new)))
  pub sound : OnOk result (has_failed new ≡ false)
  pub file : IsErrOf result File → IsYoung old → (has_failed new ≡ true) ⊎ IsPastBound old new
  pub memory : IsErrOf result Memory → has_failed new ≡ false
  pub reads : reads_of new ≤ reads_of old + 2 ^ 31

-- how a call leaves a writer that had not failed: if it reports a file, a write failed; if it
-- reports memory, nothing was written
pub record IsWriting {W T : Type 0} (old new : Device W) (result : Result T StreamFault) : Type 0 where
  pub file : IsErrOf result File → has_failed new ≡ true
  pub memory : IsErrOf result Memory → new ≡ old

-- the same of a report: only one that is written as a whole promises that nothing was written if there is no memory
pub record IsReporting {W T : Type 0} (report : Report) (old new : Device W) (result : Result T StreamFault)
    : Type 0 where
  pub file : IsErrOf result File → has_failed new ≡ true
  pub memory : IsErrOf result Memory → has_failed new ≡ false
  pub whole : report ≡ History → IsErrOf result Memory → new ≡ old

-- how a stream leaves its reader and its writer, which had not failed: if it answers, it has read
-- all; if it reports a file, a read or a write failed or the input was too long; if it reports
-- memory, no call failed and nothing was written
pub record IsStreamOutcome {R W : Type 0} (remaining : R → Option (List ℕ)) (reader reader_after : Device R)
    (writer writer_after : Device W) (result : Result ℕ StreamFault) : Type 0 where
  pub all_read : OnOk result (IsAtEnd (remaining (inner_of reader_after)))
  pub file : IsErrOf result File → IsYoung reader
      → (has_failed reader_after ≡ true) ⊎ (has_failed writer_after ≡ true) ⊎ IsPastBound reader reader_after
  pub memory : IsErrOf result Memory → (has_failed reader_after ≡ false) × (writer_after ≡ writer)
  pub reads : reads_of reader_after ≤ reads_of reader + 2 ^ 31

-- the same of a stream that writes while it works: if it reports memory, no call failed
pub record IsPassingOn {R W : Type 0} (remaining : R → Option (List ℕ)) (reader reader_after : Device R)
    (writer_after : Device W) (result : Result ℕ StreamFault) : Type 0 where
  pub all_read : OnOk result (IsAtEnd (remaining (inner_of reader_after)))
  pub file : IsErrOf result File → IsYoung reader
      → (has_failed reader_after ≡ true) ⊎ (has_failed writer_after ≡ true) ⊎ IsPastBound reader reader_after
  pub memory : IsErrOf result Memory → (has_failed reader_after ≡ false) × (has_failed writer_after ≡ false)
  pub reads : reads_of reader_after ≤ reads_of reader + 2 ^ 31
