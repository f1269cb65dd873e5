-- What a step does to the bits held.
-- Assumes nothing.
use mathlib.Core.Path.{◌≡◌, refl, sym, ap, ◌∙◌, subst}
use mathlib.Core.Bool.{Bool, true, false, cond, ◌||◌, false≢true}
use mathlib.Core.List.{List, [], ◌++◌}
use Prim.Native.Nat.{ℕ, ◌+◌, ◌*◌, ◌-◌}
use native.Mathlib.Omega.{arith}
use lib.Dec.{ltb}
use lib.ListN.{length, drop, length-append}
use lib.Seq.{drop_at}
use Rattle.rom.specs.Frames.{pitch_width, is_stop}
use Rattle.rom.specs.Items.{ItemAnswer, whole, cut}
use Rattle.clock.specs.Counters.{counted, frame_begins}
use Rattle.fifo.specs.Buffer.{held_bits, held_bytes, used_up}
use Rattle.fifo.specs.Laws.{Fits}
use Rattle.fifo.proofs.Held.{held_length, held_used, held_frame}
use Rattle.rates.specs.Rates.{prefix_bits}
use Rattle.rates.specs.Form.{Item, item_code, read_item}
use Rattle.reports.specs.Reports.{no_details, of_frame, rated}
use Rattle.reports.specs.declared.Action.TheVariants.{Silent}
use Rattle.control.specs.Device.{rate_of}
use Rattle.control.specs.State.{with_clock, less_busy}
use Rattle.control.specs.Validity.{fifo_valid, control_valid}
use Rattle.control.proofs.Ranges.{control_ranges, valid_fits}
use Rattle.control.proofs.Busy.{less_keeps_valid}
use Rattle.speech.specs.Advance.{frame_begun, fifo_out, from_rom, from_fifo, form_of, thrown_by, boundary_in, within, advanced_from}
use Rattle.account.specs.Types.{Frame, Silence, Stop, Repeat, Unvoiced, Voiced, NoReport, Mode, Idle, Rom, Waiting, External, Control}
use Rattle.account.specs.Order.{nothing, frame, stop, out, rom_step}
use Rattle.account.specs.Laws.{is_external, reading_in, reading_of, StepMoves, FifoMoves}
use Rattle.account.proofs.Bytes.{held_none, in_mode}

is_stop_lem : (f : Frame) → is_stop f ≡ true → f ≡ Stop
is_stop_lem Silence e = absurd (false≢true e)
is_stop_lem Stop e = refl
is_stop_lem (Repeat e p) h = absurd (false≢true h)
is_stop_lem (Unvoiced e k1 k2 k3 k4) h = absurd (false≢true h)
is_stop_lem (Voiced e p k1 k2 k3 k4 k5 k6 k7 k8 k9 k10) h = absurd (false≢true h)

module _ (image : List ℕ) (k : Control) (v : control_valid k ≡ true) where
  -- ---- from ROM, where no bits are held

  module _ (e : k.mode ≡ Rom) where
    none : held_bits k.fifo ≡ []
    none = held_none k v (ap is_external e)

    rom_moved : (x : ItemAnswer Item) → StepMoves (reading_in Rom k) (held_bits k.fifo) (from_rom image k x)
    rom_moved (whole (q, f) next) = go (is_stop f) refl
      where
        go : (t : Bool) → is_stop f ≡ t → StepMoves (reading_in Rom k) (held_bits k.fifo) (frame_begun k (q, f) next k.fifo (rated q))
        go true t = record { bits = rw (t, none) (rom_step refl refl); reading = rw t }
        go false t = record { bits = rw t (rom_step refl refl); reading = rw t (in_mode k e) }
    rom_moved (cut h) = record { bits = rom_step refl refl; reading = refl }

  -- ---- from the FIFO

  module _ (e : k.mode ≡ External) where
    fits : Fits k.fifo
    fits = valid_fits External k.fifo (subst (λ (m : Mode). fifo_valid m k.fifo ≡ true) e (control_ranges k v).fifo)

    out_moved : (missing : ℕ) → StepMoves (reading_in External k) (held_bits k.fifo) (fifo_out k missing)
    out_moved missing = record { bits = out refl (sym (held_length k.fifo fits)) refl; reading = refl }

    fifo_moved : (x : ItemAnswer Item) → x ≡ read_item (form_of pitch_width k) (held_bytes k.fifo) k.fifo.used_bits
        → StepMoves (reading_in External k) (held_bits k.fifo) (from_fifo k x)
    fifo_moved (whole (q, f) next) a = go (is_stop f) refl (ltb next (8 * k.fifo.level))
      where
        -- the frame's bits, with its rate bits
        own : List ℕ
        own = (item_code (form_of pitch_width k)).bits (q, f)

        -- the bits held are these and others
        others : List ℕ
        others = ((held_frame (prefix_bits (rate_of k.device)) pitch_width k.fifo (q, f) next fits).0 (sym a)).1.0

        split : held_bits k.fifo ≡ own ++ others
        split = sym ((held_frame (prefix_bits (rate_of k.device)) pitch_width k.fifo (q, f) next fits).0 (sym a)).1.1

        past : next ≡ k.fifo.used_bits + length own
        past = ((held_frame (prefix_bits (rate_of k.device)) pitch_width k.fifo (q, f) next fits).0 (sym a)).2

        sizes : length (held_bits k.fifo) ≡ length own + length others
        sizes = ap length split ∙ length-append own others

        left : held_bits (used_up k.fifo next) ≡ others
        left =
            ap (λ (n : ℕ). held_bits (used_up k.fifo n)) past
            ∙ held_used k.fifo (length own) fits (omega (arith, sizes))
            ∙ ap (drop (length own)) split
            ∙ drop_at own others _ refl

        gone : 8 * k.fifo.level - next ≡ length others
        gone = omega (arith, sizes, past, held_length k.fifo fits)

        go : (t : Bool) → is_stop f ≡ t → (l : Bool)
            → StepMoves (reading_in External k) (held_bits k.fifo)
            (cond (t || l) (frame_begun k (q, f) k.address.position (used_up k.fifo next) (of_frame q (thrown_by k f next))) (fifo_out k 0))
        go true t l =
            record { bits = rw t (stop others refl (split ∙ ap (λ (g : Frame). (item_code (form_of pitch_width k)).bits (q, g) ++ others) (is_stop_lem f t)) gone); reading = rw t }
        go false t true =
            record { bits = rw t (frame refl (split ∙ ap (λ (l : List ℕ). own ++ l) (sym left)) refl); reading = rw t (in_mode k e) }
        go false t false = out_moved 0
    fifo_moved (cut h) a = out_moved h.missing

  -- ---- a boundary

  boundary_moved : (m : Mode) → k.mode ≡ m → StepMoves (reading_in m k) (held_bits k.fifo) (boundary_in pitch_width m image k)
  boundary_moved Idle e = record { bits = nothing refl; reading = in_mode k e }
  boundary_moved Rom e = rom_moved e (read_item (form_of pitch_width k) image k.address.position)
  boundary_moved Waiting e = record { bits = nothing refl; reading = in_mode k e }
  boundary_moved External e = fifo_moved e _ refl

  from_moves : StepMoves (reading_of k) (held_bits k.fifo) (advanced_from pitch_width image k)
  unfolding advanced_from
  from_moves = go k.clock.sounding (frame_begins k.clock)
    where
      go : (s b : Bool)
          → StepMoves (reading_of k) (held_bits k.fifo)
          (cond s
          (cond b (boundary_in pitch_width k.mode image k)
          (record { control = with_clock (counted k.clock) k; action = within k.clock; report = NoReport; details = no_details }))
          (record { control = k; action = Silent; report = NoReport; details = no_details }))
      go false b = record { bits = nothing refl; reading = refl }
      go true true = boundary_moved k.mode refl
      go true false = record { bits = nothing refl; reading = refl }

pub fifo_moves : FifoMoves
fifo_moves image k v = from_moves image (less_busy 1 k) (less_keeps_valid 1 k v)
