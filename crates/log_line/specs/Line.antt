-- 01, "Log": the line that a command prints as. "that is width, height, N, w, search; dy, dx, distortion; blocks. A still block prints as `0 0 0`."
-- "34 itself unprinted". "A refusal prints as `refused 14 at 8`". 02, request 4, of command 6: "Its printed line ends with the measure."
-- Each line ends in byte 10.
--   number_text  an integer's digits, with a sign before them where it is below 0, and the byte after it
--   spaced      integers with a space between two, and the line's end after the last
--   worded      a command's words and values
--   line_of      the line of a command; 34 has none
use Rattle.std.specs.Prelude.{ℕ, suc, List, [], ◌∷◌, ◌++◌, cond, eqb, ℤ, pos, negsuc}
use Rattle.put.specs.Digits.{decimal}
use Rattle.log_command.specs.declared.Command.{Command}
use Rattle.log_command.specs.declared.Command.TheVariants as Cmd
use Rattle.log_command.specs.Commands.{command_values}

-- bytes of the text: a space, the line's end, a minus sign
abbrev pub space : ℕ
space = 32

abbrev pub newline : ℕ
newline = 10

unfoldable pub number_text : ℤ → ℕ → List ℕ
number_text (pos n) after = decimal n ++ (after ∷ [])
number_text (negsuc n) after = 45 ∷ decimal (suc n) ++ (after ∷ [])

unfoldable pub spaced : List ℤ → List ℕ
spaced [] = []
spaced (z ∷ []) = number_text z newline
spaced (z ∷ y ∷ zs) = number_text z space ++ spaced (y ∷ zs)

-- ---- lines

-- "end ", "refused ", "at "
unfoldable pub end_word : List ℕ
end_word = 101 ∷ 110 ∷ 100 ∷ 32 ∷ []

unfoldable pub refused_word : List ℕ
refused_word = 114 ∷ 101 ∷ 102 ∷ 117 ∷ 115 ∷ 101 ∷ 100 ∷ 32 ∷ []

unfoldable pub at_word : List ℕ
at_word = 97 ∷ 116 ∷ 32 ∷ []

-- the words before a command's values
abbrev pub words_of : Command → List ℕ
words_of (Cmd.Head h) = []
words_of (Cmd.Block dy dx distortion) = []
words_of Cmd.Still = []
words_of (Cmd.End blocks) = end_word
words_of (Cmd.Refused n place) = refused_word ++ number_text (pos n) space ++ at_word

unfoldable pub worded : Command → List ℕ
worded command = words_of command ++ spaced (command_values command)

abbrev pub line_of : Command → List ℕ
line_of (Cmd.Refused n place) = cond (eqb n 34) [] (worded (Cmd.Refused n place))
line_of (Cmd.Head h) = worded (Cmd.Head h)
line_of (Cmd.Block dy dx distortion) = worded (Cmd.Block dy dx distortion)
line_of Cmd.Still = worded Cmd.Still
line_of (Cmd.End blocks) = worded (Cmd.End blocks)
