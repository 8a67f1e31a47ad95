-- Worked lines of a recording.
use Rattle.std.proofs.Common.{◌≡◌, [], ◌∷◌, ◌++◌, refl}
use Rattle.std.specs.Prelude.{codes}
use Rattle.std.specs.Fmt.{digits}
use Rattle.json.specs.Print.{escape_byte}
use Rattle.pz_base.specs.declared.fault.Code.TheVariants as code
use Rattle.pz_case.specs.declared.item.FrameKind.TheVariants as kind
use Rattle.pz_case.specs.declared.item.Item.TheVariants as item
use Rattle.pz_case.specs.declared.item.Refusal.TheVariants.{Source, NoLevel}
use Rattle.pz_case.specs.declared.item.Stop.TheVariants as stop
use Rattle.pz_case.specs.declared.item.Verdict.TheVariants.{Passed, Stopped, Refused}
use Rattle.pz_lines.specs.Lines.{frame_line, verdict_line, close_line, text_from, text_of}
use Rattle.pz_lines.specs.Naming.{kind_name, code_name, stop_name, refusal_name, close_name, cause_name}

-- the keys stand in the order of their bytes, and a line feed of the level text is escaped
frame_of_a_move : frame_line 2 0 kind.Move 1 ((codes "wall:0,\n0,\n"))
    ≡ codes "{\"at\":1,\"frame\":0,\"kind\":\"move\",\"level\":\"wall:0,\\n0,\\n\",\"session\":2}\n"
unfolding frame_line kind_name digits escape_byte
frame_of_a_move = refl

-- a cause stands first, and a quotation mark of the name is escaped
stopped_session : close_line 1 (codes "a\"b") 3 (Stopped stop.LoopLimit)
    ≡ codes "{\"cause\":\"loop-limit\",\"close\":\"stopped\",\"frames\":3,\"name\":\"a\\\"b\",\"session\":1}\n"
unfolding close_line verdict_line cause_name close_name stop_name digits escape_byte
stopped_session = refl

-- a fault of the source by its code and its line
refused_source : close_line 0 (codes "a") 0 (Refused (Source (record { code = code.OutsideProfile; line = 26 })))
    ≡ codes "{\"cause\":\"OutsideProfile:26\",\"close\":\"refused\",\"frames\":0,\"name\":\"a\",\"session\":0}\n"
unfolding close_line verdict_line cause_name close_name refusal_name code_name digits escape_byte
refused_source = refl

-- sessions are numbered from 0; the frames are counted without the close, and a session that was played has no cause
two_sessions : text_of (record { name = codes "a"; items = item.Frame 0 kind.Start 0 [] ∷ item.Close Passed ∷ [] }
    ∷ record { name = codes "b"; items = item.Close (Refused NoLevel) ∷ [] } ∷ [])
    ≡ codes "{\"at\":0,\"frame\":0,\"kind\":\"start\",\"level\":\"\",\"session\":0}\n"
    ++ codes "{\"close\":\"passed\",\"frames\":1,\"name\":\"a\",\"session\":0}\n"
    ++ codes "{\"cause\":\"no-level\",\"close\":\"refused\",\"frames\":0,\"name\":\"b\",\"session\":1}\n"
unfolding text_of frame_line close_line verdict_line kind_name cause_name close_name refusal_name digits escape_byte
two_sessions = refl

-- no session gives no line
no_session : text_of [] ≡ []
unfolding text_of
no_session = refl

-- from input 1 on the start is left out, and of a session that was refused nothing; numbers, and how many frames a close tells, stay those of the whole text
from_1 : text_from 1 (record { name = codes "a"; items = item.Frame 0 kind.Start 0 [] ∷ item.Frame 1 kind.Move 1 [] ∷ item.Frame 2 kind.Tick 2 [] ∷ item.Close Passed ∷ [] }
    ∷ record { name = codes "b"; items = item.Close (Refused NoLevel) ∷ [] } ∷ [])
    ≡ codes "{\"at\":1,\"frame\":1,\"kind\":\"move\",\"level\":\"\",\"session\":0}\n"
    ++ codes "{\"at\":2,\"frame\":2,\"kind\":\"tick\",\"level\":\"\",\"session\":0}\n"
    ++ codes "{\"close\":\"passed\",\"frames\":3,\"name\":\"a\",\"session\":0}\n"
    ++ codes "{\"cause\":\"no-level\",\"close\":\"refused\",\"frames\":0,\"name\":\"b\",\"session\":1}\n"
unfolding text_from frame_line close_line verdict_line kind_name cause_name close_name refusal_name digits escape_byte
from_1 = refl

-- behind the last input there is the close alone
from_2 : text_from 2 (record { name = codes "a"; items = item.Frame 0 kind.Start 0 [] ∷ item.Frame 1 kind.Move 1 [] ∷ item.Close Passed ∷ [] } ∷ [])
    ≡ codes "{\"close\":\"passed\",\"frames\":2,\"name\":\"a\",\"session\":0}\n"
unfolding text_from close_line verdict_line cause_name close_name digits escape_byte
from_2 = refl
