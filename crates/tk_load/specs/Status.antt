-- What is told of a status: the number with which the program ends, and the line on standard error.
use Rattle.std.specs.Prelude.{ℕ, ◌++◌, nat_lt, if◌then◌else◌, List, [], ◌∷◌, codes}
use Rattle.std.specs.Fmt.{decimal}
use Rattle.tk_story.specs.declared.ends.difference.Difference.{Difference}
use Rattle.tk_story.specs.declared.ends.difference.Direction.{Direction}
use Rattle.tk_story.specs.declared.ends.difference.Direction.TheVariants.{DownLink, UpLink}
use Rattle.tk_load.specs.declared.status.InputKind.{InputKind}
use Rattle.tk_load.specs.declared.status.InputKind.TheVariants as k
use Rattle.tk_load.specs.declared.status.Status.{Status}
use Rattle.tk_load.specs.declared.status.Status.TheVariants as s

-- the number with which the program ends
abbrev pub number_of : Status → ℕ
number_of s.Done = 0
number_of s.Usage = 2
number_of (s.ReadFault file) = 3
number_of (s.BadInput file line kind) = 4
number_of (s.TooGreat mon obj) = 5
number_of s.WriteFault = 6
number_of s.NoMemory = 7
number_of s.LinkFault = 8
number_of (s.LinkDiffers difference) = 9
number_of (s.BadTrace file fault) = 11

-- what is wrong with an input, in words
abbrev pub kind_text : InputKind → List ℕ
kind_text k.Empty = codes "no object"
kind_text k.TooMany = codes "too many records"
kind_text k.TooLong = codes "the file is too long"
kind_text k.LineTooLong = codes "the line is too long"
kind_text k.BadRow = codes "wrong number of fields"
kind_text k.BadName = codes "bad name"
kind_text k.Repeated = codes "repeated name"
kind_text k.UnknownName = codes "unknown object"
kind_text k.BadNumber = codes "bad number"
kind_text (k.MonitorGap mon) = codes "no log for monitor " ++ decimal mon.0
kind_text (k.TooManyFeeders mon) = codes "too many logs for monitor " ++ decimal mon.0
kind_text k.TooManyUpdates = codes "too many changes"
kind_text k.BadOrder = codes "bad order"
kind_text k.BadCount = codes "bad number of objects or monitors"
kind_text k.BadK = codes "bad k"
kind_text k.BadEpsilon = codes "bad epsilon"
kind_text k.BadWeight = codes "bad own weight"
kind_text k.BadWidth = codes "bad width"

-- the file at fault, or the settings where it is none
abbrev pub place_text : List ℕ → List ℕ
place_text [] = codes "settings"
place_text (c ∷ rest) = c ∷ rest

-- its line, where it has one
abbrev pub line_text : ℕ → List ℕ
line_text n = if nat_lt 0 n then codes "line " ++ decimal n ++ codes ": " else []

-- which frame of a link: those that a monitor sends go up
abbrev pub link_text : Direction → List ℕ
link_text UpLink = codes ": up frame "
link_text DownLink = codes ": down frame "

-- an object of a monitor whose changes pass the limit
abbrev pub great_text : ℕ → ℕ → List ℕ
great_text mon object = codes "monitor " ++ (decimal mon ++ (codes ": object " ++ (decimal object ++ codes ": the changes pass the limit")))

-- the first frame of a link that differs
abbrev pub differs_text : Difference → List ℕ
differs_text found = codes "monitor " ++ (decimal found.mon.0 ++ (link_text found.direction ++ (decimal found.place ++ codes " differs")))

-- the line on standard error, without its line feed; nothing where the run is done
abbrev pub fault_text : Status → List ℕ
fault_text s.Done = []
fault_text s.Usage = codes "topk: the words are not understood"
fault_text (s.ReadFault file) = codes "topk: " ++ (file.items ++ codes ": cannot be read")
fault_text (s.BadInput file line kind) = codes "topk: " ++ (place_text file.items ++ (codes ": " ++ (line_text line ++ kind_text kind)))
fault_text (s.TooGreat mon obj) = codes "topk: " ++ great_text mon.0 obj.0
fault_text s.WriteFault = codes "topk: the output cannot be written"
fault_text s.NoMemory = codes "topk: out of memory"
fault_text s.LinkFault = codes "topk: a link failed"
fault_text (s.LinkDiffers difference) = codes "topk: " ++ differs_text difference
fault_text (s.BadTrace file fault) = codes "topk: " ++ (file.items ++ codes ": not a legal trace")
