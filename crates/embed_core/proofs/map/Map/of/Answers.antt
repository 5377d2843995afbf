use Rattle.embed_core.proofs.Prelude.{IsEmbedding, image_map, HoldsImages, image_in, topology, complete}
use Rattle.embed_defs.proofs.ComposedMaps.{trees_of_images_embed}
use Rattle.embed_defs.proofs.EmbeddedMaps.{embeddings_are_good_maps}
use Rattle.embed_core.proofs.PreorderMaps.{holds-images}
use Rattle.embed_core.proofs.map.Map.of.Goals as goal

pub returns : goal.returns
returns c =
    let held : HoldsImages (topology c.args.topo.now) (image_in (topology c.args.topo.now) c.args.images.now) c.in_ok-map.map
    = holds-images (topology c.args.topo.now) c.args.images.now c.as_slice.result.now c.in_ok-map.map c.as_slice.ensures c.in_ok-map.ensures.map in
    let embedding : IsEmbedding (topology c.args.topo.now) (complete c.args.target.now.arities) (image_map c.in_ok-map.map)
    = trees_of_images_embed (topology c.args.topo.now) (complete c.args.target.now.arities) (image_in (topology c.args.topo.now) c.args.images.now) c.in_ok-map.map held c.requires.embedding in
    record {
      images = held;
      shape = held.shape;
      good = embeddings_are_good_maps c.args.target.now.arities (topology c.args.topo.now) c.in_ok-map.map held.shape embedding;
      embedding = embedding;
    }
