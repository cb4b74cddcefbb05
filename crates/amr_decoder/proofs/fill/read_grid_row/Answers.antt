use Rattle.std.proofs.Common.{◌≡◌, ◌+◌, ◌*◌, ◌^◌, ◌<◌, ℕ, List, mul_assoc, mul_comm, drop, length, sym, ap, subst, ◌∙◌, arith}
use Rattle.std.specs.Prelude.{slice_index}
use Rattle.std.specs.Int.{Width, byte_len}
use Rattle.amr_box.specs.Cells.{height, width}
use Rattle.amr_codec.specs.MassWidths.{width_of}
use Rattle.amr_patch.proofs.Rows.{place_within}
use Rattle.amr_decoder.specs.declared.grid.Source.{Source}
use Rattle.amr_decoder.specs.Grids.{AreInBytes, HasMasses, masses_of}
use Rattle.amr_decoder.specs.Numbers.{number_at}
use Rattle.amr_decoder.proofs.MassReadings.{numbers_at, row_number}
use Rattle.amr_decoder.proofs.fill.read_grid_row.Goals as goal

-- a mass in a row of the box, by its place among all
in_row : (bytes : List ℕ) (w : Width) (from columns j i len count : ℕ) → len ≡ byte_len w → count ≡ columns → number_at w (drop (from + len * (count * j)) bytes) i ≡ number_at w (drop from bytes) (j * columns + i)
in_row bytes w from columns j i len count bytes_each row =
    (λ t. number_at w (drop (from + bytes_each t * (row t * j)) bytes) i)
    ∙ ap (λ k. number_at w (drop (from + k) bytes) i) (sym (mul_assoc (byte_len w) columns j))
    ∙ row_number w from columns j i bytes

inside_all : (columns rows j i : ℕ) → j < rows → i < columns → j * columns + i < columns * rows
inside_all columns rows j i row column = subst (λ n. j * columns + i < n) (mul_comm rows columns) (place_within j i columns rows row column)

pub read_row-requires-clause-small : goal.read_row-requires-clause-small
read_row-requires-clause-small c i h =
    let b = c.args.grid.now.bx in
    let bytes = c.args.bytes.now in
    let w = width_of c.in-Bytes.width in
    let from = c.in-Bytes.from in
    let j = c.args.j in
    let there : AreInBytes bytes c.in-Bytes.width from (width b * height b) = subst (λ (s : Source). HasMasses bytes s (width b * height b)) c.in-Bytes.is c.requires.masses.at in
    let place = inside_all (width b) (height b) j i c.requires.inside (omega (arith, h, c.requires.row)) in
    subst (λ n. n < 2 ^ 32) (sym (in_row bytes w from (width b) j i c.mass_len.result (length c.args.row.now) c.mass_len.ensures c.requires.row)) (there.small (j * width b + i) place)

pub returns-in-Bytes : goal.returns-in-Bytes
returns-in-Bytes c i h =
    let b = c.args.grid.now.bx in
    let bytes = c.args.bytes.now in
    let w = width_of c.in-Bytes.width in
    let from = c.in-Bytes.from in
    let j = c.args.j in
    let n = width b * height b in
    let start = from + c.mass_len.result * (length c.args.row.now * j) in
    let place = inside_all (width b) (height b) j i c.requires.inside (omega (arith, h, c.requires.row)) in
    ap (λ (ms : List ℕ). slice_index ms i) c.read_row.ensures
    ∙ numbers_at w (length c.args.row.now) i (drop start bytes) h
    ∙ in_row bytes w from (width b) j i c.mass_len.result (length c.args.row.now) c.mass_len.ensures c.requires.row
    ∙ sym (numbers_at w n (j * width b + i) (drop from bytes) place)
    ∙ ap (λ (s : Source). slice_index (masses_of bytes s n) (j * width b + i)) (sym c.in-Bytes.is)
    ∙ ap (λ k. slice_index (masses_of bytes c.args.grid.now.masses n) (j * k + i)) (sym c.requires.row)
