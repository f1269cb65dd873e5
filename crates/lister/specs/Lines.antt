-- The lines that the lister prints (01, "Numbers to try", the lister), as ASCII codes.
use Rattle.std.specs.Prelude.{cond, List, [], ◌∷◌, ◌++◌, ℕ, eqb, leb, take, drop, get_or}
use Rattle.base.specs.Refusals.{NO_PHRASE}
use Rattle.rom.specs.Phrases.{Walked}
use Rattle.lister.specs.Text.{codes, decimal}

-- the word for a kind's number: 1 silence, 2 stop, 3 repeat, 4 unvoiced, 5 voiced; no frame, which no listing has, is `none`
unfoldable pub kind_word : ℕ → List ℕ
kind_word kind =
    cond (eqb kind 1) (codes "silence")
    (cond (eqb kind 2) (codes "stop")
    (cond (eqb kind 3) (codes "repeat")
    (cond (eqb kind 4) (codes "unvoiced")
    (cond (eqb kind 5) (codes "voiced") (codes "none")))))

-- the pitch index, `-` for silence and stop
unfoldable pub pitch_text : ℕ → ℕ → List ℕ
pitch_text kind pitch = cond (leb kind 2) (codes "-") (decimal pitch)

-- how many K indexes a line shows: 4 for unvoiced and 10 for voiced
unfoldable pub k_count : ℕ → ℕ
k_count kind = cond (eqb kind 4) 4 (cond (eqb kind 5) 10 0)

-- K indexes, a space before each
unfoldable pub indexes : List ℕ → List ℕ
indexes [] = []
indexes (k ∷ ks) = codes " " ++ decimal k ++ indexes ks

-- The line of a frame, from its first bit and its numbers (kind, energy, pitch, K1 to K10): first bit, kind, energy index,
-- pitch index, K indexes.
unfoldable pub frame_line : ℕ → List ℕ → List ℕ
frame_line first numbers =
    let kind = get_or numbers 0 0 in
    decimal first ++ codes " " ++ kind_word kind ++ codes " " ++ decimal (get_or numbers 1 0) ++ codes " " ++ pitch_text kind (get_or numbers 2 0)
    ++ indexes (take (k_count kind) (drop 3 numbers)) ++ codes "\n"

-- `phrase F frames B bits Y bytes`
unfoldable pub phrase_line : ℕ → ℕ → ℕ → List ℕ
phrase_line frames bits bytes =
    codes "phrase " ++ decimal frames ++ codes " frames " ++ decimal bits ++ codes " bits " ++ decimal bytes ++ codes " bytes\n"

-- `refused` and the number
unfoldable pub refused_line : ℕ → List ℕ
refused_line n = codes "refused " ++ decimal n ++ codes "\n"

-- `refused 10`, the bit at which the cut frame begins and the bits that it lacks (02, §4)
unfoldable pub cut_line : ℕ → ℕ → List ℕ
cut_line begun missing = codes "refused 10 " ++ decimal begun ++ codes " " ++ decimal missing ++ codes "\n"

-- the line of a refused walk
unfoldable pub walk_line : Walked → List ℕ
walk_line w = cond (eqb w.refusal NO_PHRASE) (cut_line w.short.begun w.short.missing) (refused_line w.refusal)
