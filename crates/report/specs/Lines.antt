-- The lines of a report.
use Rattle.std.specs.Prelude.{ℕ, List, [], ◌∷◌, ◌++◌, Ok, Err, codes, Result}
use Rattle.processor.specs.Drives.{energy_of, span_of}
use Rattle.processor.specs.Refusals.{refusal_number}
use Rattle.processor.specs.declared.drive.Drive.{Drive}
use Rattle.processor.specs.declared.drive.Drive.TheVariants.{Fixed, Pair}
use Rattle.processor.specs.declared.refusal.Refusal.{Refusal}
use Rattle.report.specs.Texts.{line_end, row_text}
use Rattle.report.specs.declared.fault.FaultLine.{FaultLine}
use Rattle.report.specs.declared.line.Line.{Line}

abbrev pub header_text : List ℕ
header_text = codes "record,answer,ticket,low,high,qlow,qhigh,nanojoule,frame" ++ line_end

-- the modes, their times, the energy of a frame and the frame; of a fixed drive the mode twice and no times
abbrev pub drive_fields : Drive → List ℕ
drive_fields (Fixed m) = m.number ∷ m.number ∷ 0 ∷ 0 ∷ energy_of (Fixed m) ∷ span_of (Fixed m) ∷ []
drive_fields (Pair p) = p.low.number ∷ p.high.number ∷ p.low_time ∷ p.high_time ∷ energy_of (Pair p) ∷ span_of (Pair p) ∷ []

-- 0 and the ticket, or the refusal's number and 0
abbrev pub answer_fields : Result ℕ Refusal → List ℕ
answer_fields (Ok ticket) = 0 ∷ ticket ∷ []
answer_fields (Err refusal) = refusal_number refusal ∷ 0 ∷ []

abbrev pub line_fields : Line → List ℕ
line_fields l = answer_fields l.answer ++ drive_fields l.drive

abbrev pub line_text : Line → List ℕ
line_text l = row_text [] l.«record» (line_fields l)

abbrev pub fault_text : FaultLine → List ℕ
fault_text f = row_text (codes "fault,") (refusal_number f.refusal) (f.file ∷ f.«record» ∷ f.field ∷ [])
