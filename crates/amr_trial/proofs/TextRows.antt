-- Whole texts at both ends of the ranges, worked out by another program from the generator's three lines.
use Rattle.std.proofs.Common.{◌≡◌, refl}
use Rattle.std.specs.Prelude.{codes}
use Rattle.std.specs.Fmt.{digits}
use Rattle.amr_trial.specs.Generator.{moved, quotient}
use Rattle.amr_trial.specs.Trial.{block_from, text}

text_of_least : text 0 8 ≡ codes "version = 1\nname = \"trial-0-8\"\ncells = [8, 8]\nsteps = 16\ncourant = [2, 0, 8]\nsides = [-1, -1, 0, 0]\nmax_level = 2\ntag = [64, 16]\nmax_grid_size = 16\nblocks = [[1, 4, 2, 5, 2488], [7, 0, 7, 1, 1746], [6, 5, 6, 5, 1353], [2, 3, 3, 3, 821], [7, 2, 7, 3, 1649], [7, 3, 7, 4, 2128], [2, 4, 3, 5, 2066], [7, 0, 7, 0, 2331]]\n"
unfolding moved quotient block_from text digits
text_of_least = refl

text_of_number_0 : text 0 64 ≡ codes "version = 1\nname = \"trial-0-64\"\ncells = [64, 64]\nsteps = 16\ncourant = [2, 0, 8]\nsides = [-1, -1, 0, 0]\nmax_level = 2\ntag = [64, 16]\nmax_grid_size = 16\nblocks = [[17, 52, 30, 63, 2488], [7, 32, 18, 47, 1746], [6, 61, 10, 63, 1353], [18, 27, 21, 41, 821], [15, 42, 28, 53, 1649], [23, 19, 37, 28, 2128], [26, 36, 27, 47, 2066], [23, 48, 29, 48, 2331]]\n"
unfolding moved quotient block_from text digits
text_of_number_0 = refl

text_of_number_1 : text 1 64 ≡ codes "version = 1\nname = \"trial-1-64\"\ncells = [64, 64]\nsteps = 16\ncourant = [4, 1, 8]\nsides = [-1, -1, 0, 0]\nmax_level = 2\ntag = [64, 16]\nmax_grid_size = 16\nblocks = [[12, 38, 22, 41, 2714], [54, 41, 63, 52, 1266], [60, 32, 63, 44, 1306], [31, 20, 36, 31, 3469], [30, 34, 43, 34, 3876], [32, 17, 32, 32, 1298], [28, 5, 42, 15, 714], [42, 28, 55, 43, 3556]]\n"
unfolding moved quotient block_from text digits
text_of_number_1 = refl

text_of_greatest : text 4294967295 256 ≡ codes "version = 1\nname = \"trial-4294967295-256\"\ncells = [256, 256]\nsteps = 16\ncourant = [4, 0, 8]\nsides = [-1, -1, 0, 0]\nmax_level = 2\ntag = [64, 16]\nmax_grid_size = 16\nblocks = [[208, 11, 255, 74, 4088], [40, 127, 40, 172, 3914], [223, 167, 255, 183, 3503], [24, 124, 82, 140, 3129], [131, 35, 166, 77, 4008], [70, 196, 78, 200, 462], [111, 55, 157, 92, 1688], [64, 231, 127, 255, 1175]]\n"
unfolding moved quotient block_from text digits
text_of_greatest = refl
