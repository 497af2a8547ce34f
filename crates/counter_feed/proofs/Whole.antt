-- The whole of the program's input: what is printed for it, piece by piece, is what the definition prints.
use mathlib.Core.Path.{◌≡◌, ap, subst, ◌∙◌}
use mathlib.Core.List.{List, ◌++◌}
use Prim.Native.Nat.{ℕ}
use Rattle.spec_counter.specs.Counter.{counter}
use Rattle.spec_counter.specs.Stream.{Place, ConsumesAll, ended, then}
use Rattle.spec_counter.proofs.Stream.{joint, output_end, however_cut}
use Rattle.counter_printing.specs.declared.Output.{Output}
use Rattle.counter_feed.specs.Feeding.{place_of, Stands, Begins, Finishes, Feedings, over, fed}
use Rattle.counter_feed.specs.declared.Reader.{Reader}

-- calls of `feed` are a run of the definition
feedings_run : {b a : Place} {inputs texts : List (List ℕ)} → Feedings b a inputs texts → ConsumesAll b a inputs texts
feedings_run over = ended
feedings_run (fed f s) = then f.consumes (feedings_run s)

-- from the first byte to the last, however the input is cut into chunks: what `feed` and at last `finish` wrote is what the definition
-- prints for the whole input
pub counting_whole : (first last : Reader) (bytes bytes' : List ℕ) (before after : Output) (inputs texts : List (List ℕ)) → Begins first → Feedings (place_of last bytes') (place_of first bytes) inputs texts → Stands last bytes' → (f : Finishes last before after) → joint texts ++ f.text ≡ counter (joint inputs)
counting_whole first last bytes bytes' before after inputs texts b s stands f =
    let p = place_of last bytes' in
    let run = subst (λ (a : Place). ConsumesAll p a inputs texts) (b.place bytes) (feedings_run s) in
    ap (λ (l : List ℕ). joint texts ++ l) (f.ends bytes' stands ∙ output_end p stands.unended) ∙ however_cut p inputs texts run stands.unended
