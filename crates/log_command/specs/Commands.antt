-- 01, "Log": the commands. "1 head, 2 block, 3 still block, 4 end". "Head: width and height (2 bytes each), N, w, search (1 each). Block: dy, dx as
-- two's-complement bytes, distortion 2 bytes. Still block: no operand, for (0,0) with distortion 0 [...] End: number of blocks, 4 bytes."
-- 02, request 4: "Log command 5 is a block with a four-byte distortion, used just for distortions above 65,535." "Command 6 is a head with the measure as an
-- eighth operand byte; it is written for measure 2 only". "Its printed line ends with the measure."
--   carries         the head carries its measure: its command is 6; isLong: the distortion takes four bytes: its block's command is 5
--   command_number   the number of each case: the command byte, or the refusal's number; head_number, blockNumber: those of a head and a block
--   command_values   the values of each case, in the order in which they are written and printed: of a refusal its place
--   command_bytes    the bytes of a command, its number first; a refusal has none
--   command_size     how many bytes a command takes; sizeBy: a command of this number
--   is_refused       the command is a refusal; commandPlace: its place
--   command_head     the numbers of a head; other commands have none, that is zeros
--   block_values     the three numbers that a block of either kind has in a list; other commands have none
use Rattle.std.specs.Prelude.{ℕ, ◌≡◌, refl, List, [], ◌∷◌, ◌++◌, Bool, true, false, cond, ltb, eqb, length, ℤ, pos}
use Rattle.signed.specs.Values.{byte_of}
use Rattle.log_head.specs.declared.Head.{Head}
use Rattle.log_head.specs.Heads.{no_head}
use Rattle.log_command.specs.declared.Command.{Command}
use Rattle.log_command.specs.declared.Command.TheVariants as Cmd
use Rattle.log_command.specs.Numbers.{bytes2, bytes4}

abbrev pub carries : Head → Bool
carries h = eqb h.measure 2

abbrev pub is_long : ℕ → Bool
is_long distortion = ltb 65535 distortion

abbrev pub head_number : Head → ℕ
head_number h = cond (carries h) 6 1

abbrev pub block_number : ℕ → ℕ
block_number distortion = cond (is_long distortion) 5 2

abbrev pub command_number : Command → ℕ
command_number (Cmd.Head h) = head_number h
command_number (Cmd.Block dy dx distortion) = block_number distortion
command_number Cmd.Still = 3
command_number (Cmd.End blocks) = 4
command_number (Cmd.Refused number place) = number

abbrev pub command_values : Command → List ℤ
command_values (Cmd.Head h) =
    pos h.width ∷ pos h.height ∷ pos h.n ∷ pos h.w ∷ pos h.search ∷ cond (carries h) (pos h.measure ∷ []) []
command_values (Cmd.Block dy dx distortion) = dy ∷ dx ∷ pos distortion ∷ []
command_values Cmd.Still = pos 0 ∷ pos 0 ∷ pos 0 ∷ []
command_values (Cmd.End blocks) = pos blocks ∷ []
command_values (Cmd.Refused number place) = pos place ∷ []

abbrev pub command_bytes : Command → List ℕ
command_bytes (Cmd.Head h) =
    command_number (Cmd.Head h) ∷ bytes2 h.width ++ bytes2 h.height ++ (h.n ∷ h.w ∷ h.search ∷ cond (carries h) (h.measure ∷ []) [])
command_bytes (Cmd.Block dy dx distortion) =
    command_number (Cmd.Block dy dx distortion) ∷ byte_of dy ∷ byte_of dx ∷ cond (is_long distortion) (bytes4 distortion) (bytes2 distortion)
command_bytes Cmd.Still = command_number Cmd.Still ∷ []
command_bytes (Cmd.End blocks) = command_number (Cmd.End blocks) ∷ bytes4 blocks
command_bytes (Cmd.Refused number place) = []

abbrev pub command_size : Command → ℕ
command_size command = length (command_bytes command)

abbrev pub size_by : ℕ → ℕ
size_by number =
    cond (eqb number 1) 8
    (cond (eqb number 2) 5
    (cond (eqb number 3) 1
    (cond (eqb number 4) 5
    (cond (eqb number 5) 7
    (cond (eqb number 6) 9 0)))))

abbrev pub is_refused : Command → Bool
is_refused (Cmd.Head h) = false
is_refused (Cmd.Block dy dx distortion) = false
is_refused Cmd.Still = false
is_refused (Cmd.End blocks) = false
is_refused (Cmd.Refused number place) = true

abbrev pub command_place : Command → ℕ
command_place (Cmd.Head h) = 0
command_place (Cmd.Block dy dx distortion) = 0
command_place Cmd.Still = 0
command_place (Cmd.End blocks) = 0
command_place (Cmd.Refused number place) = place

abbrev pub command_head : Command → Head
command_head (Cmd.Head h) = h
command_head (Cmd.Block dy dx distortion) = no_head
command_head Cmd.Still = no_head
command_head (Cmd.End blocks) = no_head
command_head (Cmd.Refused number place) = no_head

abbrev pub block_values : Command → List ℤ
block_values (Cmd.Head h) = []
block_values (Cmd.Block dy dx distortion) = command_values (Cmd.Block dy dx distortion)
block_values Cmd.Still = command_values Cmd.Still
block_values (Cmd.End blocks) = []
block_values (Cmd.Refused number place) = []

-- ---- laws

-- their numbers say how many bytes a head and a block take
pub head_size : (h : Head) → command_size (Cmd.Head h) ≡ size_by (head_number h)
head_size h = go (carries h) refl
  where
    go : (t : Bool) → carries h ≡ t → command_size (Cmd.Head h) ≡ size_by (head_number h)
    go true e = rw e
    go false e = rw e

pub block_size : (dy dx : ℤ) (distortion : ℕ) → command_size (Cmd.Block dy dx distortion) ≡ size_by (block_number distortion)
block_size dy dx distortion = go (is_long distortion) refl
  where
    go : (t : Bool) → is_long distortion ≡ t → command_size (Cmd.Block dy dx distortion) ≡ size_by (block_number distortion)
    go true e = rw e
    go false e = rw e
