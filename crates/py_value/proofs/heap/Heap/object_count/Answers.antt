use Rattle.py_value.proofs.SoundHeaps.{sound_objects}
use Rattle.py_value.proofs.heap.Heap.object_count.Goals as goal

pub returns-clause-distinct_keys : goal.returns-clause-distinct_keys
returns-clause-distinct_keys c = sound_objects c.args.self.now.objects.items
