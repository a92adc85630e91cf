-- The job of version 1's calls. Inside, the shape is that of the caller with the leaf kind whose leaf commitments have two nodes' length and no hash key.
use Rattle.std.specs.Prelude.{ℕ, List}
use Rattle.spec.specs.declared.Shape.{Shape}
use Rattle.job.specs.declared.Version.TheVariants.{One}
use Rattle.job.specs.declared.Job.{Job}

abbrev pub with_kind : ℕ → Shape → Shape
with_kind k s = record { tau = s.tau; k = s.k; w = s.w; t = s.t; level = s.level; kind = k }

abbrev pub inner : Shape → Shape
inner s = with_kind 1 s

-- rows of b bytes, whole
abbrev pub job_of : Shape → ℕ → List ℕ → Job
job_of s b iv = record { shape = inner s; stretch = record { first = 0; width = b }; iv = iv; version = One }
