use Rattle.std.proofs.Common.{◌≡◌, ℕ, ◌+◌, ◌*◌, ◌<◌, ◌++◌, false}
use Rattle.std.specs.Prelude.{slice_index_or}
use Rattle.amr_box.specs.Cells.{height, width}
use Rattle.amr_def.specs.Domain.{domain_of}
use Rattle.amr_faces.specs.Faces.{passing, x_end, y_end}
use Rattle.amr_layout.specs.Places.{HaveGot, leads_on}
use Rattle.amr_layout.proofs.places.put_borders.Given as goal

-- the border faces of the first rows have their places, and the mask tells them
abbrev pub invariant-loop-j : goal.invariant-loop-j
invariant-loop-j l = record {
  got : HaveGot (domain_of l.dom) l.patches (passing (leads_on (domain_of l.dom) l.patches l.reader.each l.reader.patch) (x_end l.b) l.j) l.fn.places l.places;
  ends : (k : ℕ) → k < l.j → slice_index_or l.mask ((k + 1) * (width l.b + 2) + (width l.b + 1)) false ≡ leads_on (domain_of l.dom) l.patches l.reader.each l.reader.patch (x_end l.b k);
}

-- and those of the first columns
abbrev pub invariant-loop-i : goal.invariant-loop-i
invariant-loop-i l = record {
  got : HaveGot (domain_of l.dom) l.patches
      (passing (leads_on (domain_of l.dom) l.patches l.reader.each l.reader.patch) (x_end l.b) (height l.b) ++ passing (leads_on (domain_of l.dom) l.patches l.reader.each l.reader.patch) (y_end l.b) l.i) l.fn.places l.places;
  ends : (k : ℕ) → k < height l.b → slice_index_or l.mask ((k + 1) * (width l.b + 2) + (width l.b + 1)) false ≡ leads_on (domain_of l.dom) l.patches l.reader.each l.reader.patch (x_end l.b k);
  tops : (k : ℕ) → k < l.i → slice_index_or l.mask ((height l.b + 1) * (width l.b + 2) + (k + 1)) false ≡ leads_on (domain_of l.dom) l.patches l.reader.each l.reader.patch (y_end l.b k);
}
