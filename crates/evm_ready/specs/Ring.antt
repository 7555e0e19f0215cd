-- Tasks in an array that is used round: behind its last place comes its first.
use Rattle.std.specs.Prelude.{ℕ, List, ◌++◌, take, drop}

-- the first of the array, turned so that it begins at the place `start`
abbrev pub ring : List ℕ → ℕ → ℕ → List ℕ
ring tasks start len = take len (drop start tasks ++ take start tasks)
