-- Every log accepted before request 4 reads to the same numbers: the bytes of an earlier log are those of its head and field today.
use Prim.Native.Nat.{ℕ, ◌*◌, ◌≤◌, ◌<◌}
use mathlib.Core.Path.{◌≡◌, refl, sym, subst, ap, ap₂, ◌∙◌}
use mathlib.Core.Logic.{◌⊎◌, inl, inr, ⊎_elim}
use mathlib.Core.Bool.{Bool, true, false, cond, ◌&&◌}
use mathlib.Core.List.{List, [], ◌∷◌, ◌++◌, flat_map, append-nil, append_assoc}
use native.Mathlib.Nat.{mul-le-mul, mul_assoc, mul_comm}
use native.Mathlib.Omega.{arith}
use borrow.Author.Tests.{le-leb, le-ltb}
use lib.Dec.{T, leb, leb→le}
use lib.IntN.{ℤ, pos, negsuc}
use lib.Seq.{take_all, take_at}
use lib.ListN.{length, drop}
use Rattle.base.specs.Lists.{Each, list_to, concat_to, concat_to_ext}
use Rattle.base.specs.Tests.{and_left, and_right, le_both, T_true, true_T}
use Rattle.base.specs.Fronts.{flat_map_append, flat_map_list_to}
use Rattle.signed.specs.Int.{up, dn}
use Rattle.signed.specs.Values.{byte_of}
use Rattle.log_command.specs.Numbers.{bytes2}
use Rattle.measures.specs.Measures.{measure_of}
use Rattle.refusals.specs.Refusals.{side_ok, block_size_ok, block_ok, search_ok, window_ok, unless_zero, block_size_elim}
use Rattle.frame.specs.Grid.{blocks_few}
use Rattle.log_head.specs.declared.Head.{Head}
use Rattle.log_head.specs.Heads.{head_refusal, head_blocks, setting_in, largest_in, distortion_ok, candidate_ok, entry_ok, is_still, headed}
use Rattle.log_command.specs.declared.Command.{Command}
use Rattle.log_command.specs.declared.Command.TheVariants as Cmd
use Rattle.log_command.specs.Commands.{is_long, command_bytes, block_values}
use Rattle.log_command.specs.Logs.{block_command, log_commands, log_of}
use Rattle.log_cursor.specs.Walk.{walk, log_head}
use Rattle.log_list.specs.Listed.{listed_ok, AllPass}
use Rattle.log_reading.specs.Reading.{field_of, accepted_read, read_result, read_log}
use Rattle.log_line.specs.Line.{spaced, worded, line_of}
use Rattle.log_text.specs.Text.{longest_log, print_log}
use Rattle.log_writing.specs.Writing.{write_log}
use Rattle.log_walks.proofs.Made.{Made, as_still, as_block, made}
use Rattle.log_walks.proofs.Accepted.{accepted_log}
use Rattle.log_walks.proofs.Entries as Entries
use Rattle.log_walks.proofs.Complete.{complete}
use Rattle.log_round_trip.specs.Earlier.{Earlier, Allowed, head_of, earlier_of, grid_blocks, down, across, distortion}
use Rattle.log_round_trip.specs.Earlier.{earlier_head, earlier_block, earlier_end, earlier_log, earlier_line, earlier_text, EarlierLogs}
use Rattle.log_round_trip.proofs.Fields.{values_of_block}
use Rattle.log_round_trip.proofs.Writing as Writing
use Rattle.log_round_trip.proofs.Reading as Reading
use Rattle.log_round_trip.proofs.RoundTrip.{three, field_log, round_trip}

-- the largest distortion, in the words of either
largest_same : (n : ℕ) → n * (n * (measure_of 1).most) ≡ 255 * (n * n)
unfolding measure_of
largest_same n = sym (mul_assoc n n 255) ∙ mul_comm (n * n) 255

module _ (e : Earlier) (a : Allowed e) where
  abbrev h : Head
  h = head_of e

  short : e.n ≤ 16
  short = ⊎_elim (λ q. omega arith) (⊎_elim (λ q. omega arith) (λ q. omega arith)) a.size

  size_ok : block_size_ok e.n ≡ true
  unfolding block_size_ok
  size_ok = ⊎_elim (λ q. rw q) (⊎_elim (λ q. rw q) (λ q. rw q)) a.size

  fine : head_refusal h ≡ 0
  unfolding head_refusal
  fine =
      rw (
        le-leb 4 e.width a.wide.0,
        le-leb e.width 1024 a.wide.1,
        le-leb 4 e.height a.high.0,
        le-leb e.height 1024 a.high.1,
        size_ok,
        le-leb e.n e.width a.fits.0,
        le-leb e.n e.height a.fits.1,
        le-leb 1 e.search a.searched.0,
        le-leb e.search 4 a.searched.1,
        a.window,
      )

  far : (k : ℕ) → k < grid_blocks e → distortion_ok h (distortion e k) ≡ true
  far k l = go (distortion e k) (a.not_below k l) (a.not_over k l)
    where
      go : (z : ℤ) → dn z ≡ 0 → up z ≤ 255 * (e.n * e.n) → distortion_ok h z ≡ true
      go (pos d) p q = le-leb d (largest_in h) (rw (largest_same e.n) q)
      go (negsuc d) p q = absurd (omega arith)

  entries : (k : ℕ) → k < grid_blocks e → listed_ok h e.field k ≡ true
  unfolding entry_ok
  entries k l = rw (a.vector k l, far k l)

  -- no distortion takes four bytes
  two_bytes : (k : ℕ) → k < grid_blocks e → is_long (up (distortion e k)) ≡ false
  two_bytes k l = le-ltb 65535 (up (distortion e k)) (omega (arith, a.not_over k l, mul-le-mul short short))

  block_same : (k : ℕ) → k < grid_blocks e → earlier_block e k ≡ command_bytes (block_command e.field k)
  unfolding earlier_block block_command
  block_same k l = go (is_still (down e k) (across e k) (distortion e k))
    where
      go : (t : Bool) → cond t (3 ∷ []) (2 ∷ byte_of (down e k) ∷ byte_of (across e k) ∷ bytes2 (up (distortion e k)))
          ≡ command_bytes (cond t Cmd.Still (Cmd.Block (down e k) (across e k) (up (distortion e k))))
      go true = refl
      go false = rw (two_bytes k l)

  log_same : log_of h e.field ≡ earlier_log e
  unfolding log_of log_commands earlier_log flat_map
  log_same =
      let made = list_to (block_command e.field) (grid_blocks e) in
      ap (◌++◌ (earlier_head e))
      (flat_map_append command_bytes made (Cmd.End (grid_blocks e) ∷ [])
      ∙ ap₂ ◌++◌ (flat_map_list_to command_bytes (block_command e.field) (grid_blocks e)
      ∙ concat_to_ext _ (earlier_block e) (grid_blocks e) (λ k l. sym (block_same k l))) (append-nil (earlier_end e)))

  walked : walk (earlier_log e) ≡ log_commands h e.field ++ (Cmd.Refused 34 0 ∷ [])
  walked = rw (sym log_same) (complete h e.field fine entries)

  -- a block's line has its three numbers
  line_same : (k : ℕ) → k < grid_blocks e → line_of (block_command e.field k) ≡ earlier_line e k
  unfolding worded
  line_same k l = go (block_command e.field k) (made e.field k) (values_of_block h e.field fine entries k l (block_command e.field k) (made e.field k))
    where
      go : (x : Command) → Made (down e k) (across e k) (distortion e k) x → block_values x ≡ down e k ∷ across e k ∷ distortion e k ∷ [] → line_of x ≡ earlier_line e k
      go x (as_still t) q = ap spaced q
      go x (as_block t) q = ap spaced q

  text_same : length (earlier_log e) ≤ longest_log → print_log (earlier_log e) ≡ earlier_text e
  unfolding print_log log_commands earlier_text flat_map worded
  text_same m =
      let made = list_to (block_command e.field) (grid_blocks e) in
      let end = Cmd.End (grid_blocks e) ∷ [] in
      let first = spaced (pos e.width ∷ pos e.height ∷ pos e.n ∷ pos e.w ∷ pos e.search ∷ []) in
      rw (le-ltb longest_log (length (earlier_log e)) m, walked)
      (ap (◌++◌ first)
      (flat_map_append line_of (made ++ end) (Cmd.Refused 34 0 ∷ [])
      ∙ append-nil (flat_map line_of (made ++ end))
      ∙ flat_map_append line_of made end
      ∙ ap₂ ◌++◌ (flat_map_list_to line_of (block_command e.field) (grid_blocks e) ∙ concat_to_ext _ (earlier_line e) (grid_blocks e) line_same)
      (append-nil (line_of (Cmd.End (grid_blocks e)))))
      ∙ sym (append_assoc first (concat_to (earlier_line e) (grid_blocks e)) (line_of (Cmd.End (grid_blocks e)))))

  -- writing lets it pass, so that what is written reads back
  reads_back : (list : List ℤ) → length e.field ≤ length list
      → read_log (earlier_log e) list ≡ read_result (accepted_read h) (e.field ++ drop (length e.field) list)
  reads_back list m =
      let log = log_of h e.field in
      let pass : AllPass h e.field = record { listed = record { fine = fine; few = blocks_few (setting_in h) (headed h fine).fitting; room = omega (arith, a.whole) }; each = entries } in
      let written : (write_log h e.field log).answer.refusal ≡ 0 = rw (Writing.writes h e.field log (record { pass = pass; fits = omega arith })) in
      let back = round_trip.written_reads_back h e.field log written list (omega (arith, a.whole)) in
      rw (← log_same, a.whole) (rw (take_all (3 * grid_blocks e) e.field (omega (arith, a.whole))) at back)

-- ---- and what is read with measure 1 and another N than 32 is one of them

module _ (e : Earlier) (ok : head_refusal (head_of e) ≡ 0) (other : e.n ≡ 32 → ⊥) (whole : length e.field ≡ 3 * grid_blocks e)
    (each : (k : ℕ) → k < grid_blocks e → listed_ok (head_of e) e.field k ≡ true) where
  passes : (k : ℕ) → k < grid_blocks e → T (candidate_ok (setting_in (head_of e)) e.w k (down e k) (across e k)) × T (distortion_ok (head_of e) (distortion e k))
  unfolding entry_ok
  passes k l =
      let t = true_T (listed_ok (head_of e) e.field k) (each k l) in
      let c = candidate_ok (setting_in (head_of e)) e.w k (down e k) (across e k) in
      (and_left c (distortion_ok (head_of e) (distortion e k)) t, and_right c (distortion_ok (head_of e) (distortion e k)) t)

  within : (z : ℤ) → T (distortion_ok (head_of e) z) → (dn z ≡ 0) × (up z ≤ 255 * (e.n * e.n))
  within (pos d) t = (refl, rw (largest_same e.n) at (leb→le d (largest_in (head_of e)) t))
  within (negsuc d) t = absurd t

  allowed : Allowed e
  unfolding head_refusal
  allowed =
      let a = unless_zero (side_ok e.width && side_ok e.height) 0 _ ok in
      let b = unless_zero (block_ok (setting_in (head_of e))) 2 _ a.1 in
      let c = unless_zero (search_ok e.search) 3 _ b.1 in
      let d = unless_zero (window_ok e.search e.w) 4 0 c.1 in
      let fit = leb e.n e.width && leb e.n e.height in
      record {
        wide = le_both 4 e.width e.width 1024 (and_left (side_ok e.width) (side_ok e.height) a.0);
        high = le_both 4 e.height e.height 1024 (and_right (side_ok e.width) (side_ok e.height) a.0);
        size =
            block_size_elim (λ (n : ℕ). (n ≡ 32 → ⊥) → (n ≡ 4) ⊎ ((n ≡ 8) ⊎ (n ≡ 16))) (λ o. inl refl) (λ o. inr (inl refl)) (λ o. inr (inr refl))
            (λ o. absurd (o refl)) e.n (and_left (block_size_ok e.n) fit b.0) other;
        fits = le_both _ _ _ _ (and_right (block_size_ok e.n) fit b.0);
        searched = le_both 1 e.search e.search 4 c.0;
        window = T_true _ d.0;
        whole = whole;
        vector = λ k l. T_true _ (passes k l).0;
        not_below = λ k l. (within (distortion e k) (passes k l).1).0;
        not_over = λ k l. (within (distortion e k) (passes k l).1).1;
      }

-- a head of measure 1, with a field that 16 lets pass
module _ (g : Head) (field : List ℤ) (one : g.measure ≡ 1) (ok : head_refusal g ≡ 0) (other : g.n ≡ 32 → ⊥) (whole : length field ≡ 3 * head_blocks g)
    (each : (k : ℕ) → k < head_blocks g → listed_ok g field k ≡ true) where
  abbrev said : Earlier
  said = record { width = g.width; height = g.height; n = g.n; w = g.w; search = g.search; field = field }

  same_head : g ≡ head_of said
  same_head = ap (λ (x : ℕ). record { width = g.width; height = g.height; n = g.n; w = g.w; search = g.search; measure = x }) one

  said_allowed : Allowed said
  said_allowed =
      allowed said (subst (λ (f : Head). head_refusal f ≡ 0) same_head ok) other (subst (λ (f : Head). length field ≡ 3 * head_blocks f) same_head whole)
      (subst (λ (f : Head). (k : ℕ) → k < head_blocks f → listed_ok f field k ≡ true) same_head each)

  said_log : log_of g field ≡ earlier_log said
  said_log = ap (λ (f : Head). log_of f field) same_head ∙ log_same said said_allowed

module _ (log : List ℕ) (bytes : Each (λ (b : ℕ). b < 256) log) (list : List ℤ) (z : (read_log log list).answer.refusal ≡ 0) where
  Other : Head → List ℤ → Type 0
  Other g read = g.measure ≡ 1 → (g.n ≡ 32 → ⊥) → Allowed (earlier_of g read) × (log ≡ earlier_log (earlier_of g read))

  no_other : Other (read_log log list).answer.head (read_log log list).list
  unfolding Other field_of
  no_other =
      let p = Reading.accepted log list z in
      let g = log_head log in
      let field = field_of (walk log) in
      let behind = drop (length field) list in
      let long = three log bytes list z in
      rw (Reading.reads log list p, take_at field behind (3 * head_blocks g) long)
      (λ one other.
      let ok = (accepted_log log p.ended).ok in
      let each = Entries.entries log p.ended in
      (said_allowed g field one ok other long each, sym (field_log log bytes list z) ∙ said_log g field one ok other long each))

pub earlier_logs : EarlierLogs
unfolding Other
earlier_logs = record { reads = reads_back; prints = text_same; no_other = no_other }
